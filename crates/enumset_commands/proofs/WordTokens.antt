-- The words that tokens write, one token more.
use Rattle.std.proofs.Common.{◌≡◌, ◌==◌, ◌<◌, true, false, length, arith, List, ℕ, [], ◌∷◌, ◌++◌, Option, Some, None, refl, ap, append_assoc, append-nil, sym, option_map, is_some}
use Rattle.std.proofs.lemmas.Bool.Decides.{nat_tests}
use Rattle.enumset_commands.specs.Fields.{word, written_words, Takes, BeginsWithNone}

-- what tokens write, after other words
abbrev pub after_words : List ℕ → Option (List ℕ) → Option (List ℕ)
after_words ws more = option_map (λ vs. ws ++ vs) more

pub after_words-nil : (more : Option (List ℕ)) → after_words [] more ≡ more
after_words-nil None = refl
after_words-nil (Some ws) = refl

after_words-with : (ws : List ℕ) (w : ℕ) (more : Option (List ℕ)) → after_words ws (option_map (λ vs. w ∷ vs) more) ≡ after_words (ws ++ w ∷ []) more
after_words-with ws w None = refl
after_words-with ws w (Some vs) = ap Some (sym (append_assoc ws (w ∷ []) vs))

pub after_words-next : (ws : List ℕ) (w : ℕ) (old new : List (List ℕ)) → Takes word old (Some w) new → after_words ws (written_words old) ≡ after_words (ws ++ w ∷ []) (written_words new)
after_words-next ws w old new (token, first, read) = rw (first, read) (after_words-with ws w (written_words new))

pub after_words-end : (ws : List ℕ) (tokens : List (List ℕ)) → (length tokens == 0) ≡ true → after_words ws (written_words tokens) ≡ Some ws
after_words-end ws [] empty = ap Some (append-nil ws)
after_words-end ws (token ∷ tokens) empty = absurd (grind (arith, nat_tests))

is_some-with : (w : ℕ) (more : Option (List ℕ)) → is_some (option_map (λ vs. w ∷ vs) more) ≡ is_some more
is_some-with w None = refl
is_some-with w (Some vs) = refl

pub is_some-next : (w : ℕ) (old new : List (List ℕ)) → Takes word old (Some w) new → is_some (written_words old) ≡ is_some (written_words new)
is_some-next w old new (token, first, read) = rw (first, read) (is_some-with w (written_words new))

pub is_some-end : (tokens : List (List ℕ)) → (length tokens == 0) ≡ true → is_some (written_words tokens) ≡ true
is_some-end [] empty = refl
is_some-end (token ∷ tokens) empty = absurd (grind (arith, nat_tests))

pub written_words-none : (tokens : List (List ℕ)) → (length tokens == 0) ≡ false → BeginsWithNone word tokens → is_some (written_words tokens) ≡ false
written_words-none [] more none = absurd (grind (arith, nat_tests))
written_words-none (token ∷ tokens) more none = rw none refl

pub fewer_tokens : (w : ℕ) (old new : List (List ℕ)) → Takes word old (Some w) new → length new < length old
fewer_tokens w old new (token, first, read) = rw first (omega arith)

pub ruleset word_steps = (after_words-nil, after_words-next, after_words-end, is_some-next, is_some-end, written_words-none, fewer_tokens)
