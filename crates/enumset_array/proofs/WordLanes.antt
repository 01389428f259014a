-- Loops over lists of words: what an iteration over four words, over a block of words, or over one word does.
use Rattle.std.proofs.Common.{◌≡◌, ◌≢◌, ◌<◌, ◌≤◌, ℕ, zero, suc, ◌+◌, ◌-◌, ◌*◌, ◌/◌, Bool, true, false, ◌&&◌, List, [], ◌∷◌, length, take, drop, get_or, set, add-one, ◌++◌, bit_and, bit_or, refl, sym, ap, ◌∙◌, arith, w64, map, ◌==◌, nat_eq, slice_index, bit_xor, take-append-drop, get_or-drop, take_all, take_at, take-take, drop_at, drop-drop, append-nil, append_assoc, length-append, length-drop, length-take-le}
use Rattle.std.proofs.Math.Bool.{and-true, and_assoc}
use Rattle.std.proofs.Math.Seq.{take-add}
use Rattle.std.proofs.lemmas.Bool.Decides.{nat_tests}
use Rattle.std.proofs.lemmas.List.{drop_all, drop_more, set_split}
use Rattle.std.proofs.lemmas.List.Folds.{list_all-append, list_all_more}
use Rattle.std.proofs.lemmas.Nat.{le_or_l, le_or_r}
use Rattle.std.proofs.lemmas.Simd.{length-chunk, length-zip2, get_or-zip2, put_chunk_is}
use Rattle.std.specs.Cmp.Lexicographic.{pointwise}
use Rattle.std.specs.Int.{bit_not}
use Rattle.std.specs.Int.Bits.{or_zero_l, xor_zero_l, xor_zero_r}
use Rattle.std.specs.List.{list_all}
use Rattle.std.specs.Simd.{first_chunks}
use Rattle.std.specs.Simd.Lanes.{zip2, chunk, put_chunk, fold_l}
use lib.Bits.{xor_assoc, xor_self}

-- ---- parts of a list of results

none_zipped : (op : ℕ → ℕ → ℕ) (a : List ℕ) → zip2 op a [] ≡ []
none_zipped op [] = refl
none_zipped op (x ∷ a) = refl

take-zip2 : (op : ℕ → ℕ → ℕ) (n : ℕ) (a b : List ℕ) → take n (zip2 op a b) ≡ zip2 op (take n a) (take n b)
take-zip2 op zero a b = refl
take-zip2 op (suc n) [] b = refl
take-zip2 op (suc n) (x ∷ a) [] = refl
take-zip2 op (suc n) (x ∷ a) (y ∷ b) = ap (λ l. op x y ∷ l) (take-zip2 op n a b)

pub chunk-zip2 : (op : ℕ → ℕ → ℕ) (i n : ℕ) (a b : List ℕ) → chunk i n (zip2 op a b) ≡ zip2 op (chunk i n a) (chunk i n b)
chunk-zip2 op zero n a b = take-zip2 op n a b
chunk-zip2 op (suc i) n [] b = take-zip2 op n [] (drop (suc i) b)
chunk-zip2 op (suc i) n (x ∷ a) [] = ap (take n) (sym (none_zipped op (drop i a))) ∙ take-zip2 op n (drop i a) []
chunk-zip2 op (suc i) n (x ∷ a) (y ∷ b) = chunk-zip2 op i n a b

-- ---- a list whose first words were combined with others

module _ (op : ℕ → ℕ → ℕ) (a b : List ℕ) where
  abbrev all : List ℕ
  all = zip2 op a b

  -- ws is the list a with its first i words replaced by the results of op for these words of a and b
  abbrev pub PartMade : ℕ → List ℕ → Type 0
  PartMade i ws = ws ≡ take i all ++ drop i a

  -- a itself, if its first j words are their own results
  pub made_before : (i j : ℕ) → i ≤ j → take j a ≡ take j all → PartMade i a
  made_before i j low same = sym (take-append-drop i a) ∙ ap (λ l. l ++ drop i a) (sym (take-take i j a low) ∙ ap (take i) same ∙ take-take i j all low)

  pub all_made : (ws : List ℕ) (i : ℕ) → length a ≡ length b → length a ≤ i → PartMade i ws → ws ≡ all
  all_made ws i e past part =
      part ∙ (λ m. take_all i all (omega (arith, past, length-zip2 op a b e)) m ++ drop_all i a past m) ∙ append-nil all

  -- the list after n more of its words are replaced
  pub lanes_made : (ws : List ℕ) (i n j : ℕ) → length a ≡ length b → j ≡ i + n → j ≤ length a → PartMade i ws → PartMade j (put_chunk i ws (zip2 op (chunk i n ws) (chunk i n b)))
  lanes_made ws i n j e next within part =
      let long = length-take-le i all (omega (arith, next, within, length-zip2 op a b e)) in
      let made = ap (take i) part ∙ take_at (take i all) (drop i a) i long in
      let kept = ap (drop i) part ∙ drop_at (take i all) (drop i a) i long in
      let four = length-chunk i n all (omega (arith, next, within, length-zip2 op a b e)) in
      let room : i + length (chunk i n all) ≤ length ws = omega (arith, ap length part, length-append (take i all) (drop i a), length-drop i a, long, four, next, within) in
      ap (put_chunk i ws) (ap (λ l. zip2 op (take n l) (chunk i n b)) kept ∙ sym (chunk-zip2 op i n a b)) ∙ put_chunk_is i ws (chunk i n all) room
      ∙ (λ m. made m ++ (chunk i n all ++ drop (four m) (kept m))) ∙ sym (append_assoc (take i all) (chunk i n all) (drop n (drop i a)))
      ∙ (λ m. sym (take-add i n all) m ++ drop-drop n i a m) ∙ ap (λ k. take k all ++ drop k a) (sym next)

  -- the list after a block of n more of its words is replaced
  pub block_made : (ws : List ℕ) (i n m j : ℕ) → length a ≡ length b → m ≡ n → j ≡ i + n → j ≤ length a → PartMade i ws → PartMade j (take i ws ++ (zip2 op (chunk i n ws) (chunk i m b) ++ drop n (drop i ws)))
  block_made ws i n m j e same next within part =
      let long : length ws ≡ length a = omega (arith, ap length part, length-append (take i all) (drop i a), length-drop i a, length-take-le i all (omega (arith, next, within, length-zip2 op a b e))) in
      let fits : i + n ≤ length ws = omega (arith, next, within, long) in
      let made : List ℕ = zip2 op (chunk i n ws) (chunk i n b) in
      let size : length made ≡ n = length-zip2 op (chunk i n ws) (chunk i n b) (length-chunk i n ws fits ∙ sym (length-chunk i n b (omega (arith, fits, long, e)))) ∙ length-chunk i n ws fits in
      (λ k. take i ws ++ (zip2 op (chunk i n ws) (chunk i (same k) b) ++ drop (sym size k) (drop i ws)))
      ∙ sym (put_chunk_is i ws made (omega (arith, size, fits))) ∙ lanes_made ws i n j e next within part

  -- the list after one more of its words is replaced
  pub one_made : (ws : List ℕ) (i : ℕ) → length a ≡ length b → i < length a → PartMade i ws → PartMade (i + 1) (set ws i (op (slice_index ws i) (slice_index b i)))
  one_made ws i e low part =
      let long : length ws ≡ length a = omega (arith, ap length part, length-append (take i all) (drop i a), length-drop i a, length-take-le i all (omega (arith, low, length-zip2 op a b e))) in
      let first = ap (take 1) (drop_more ws i 0 (omega (arith, low, long))) in
      let second = ap (take 1) (drop_more b i 0 (omega (arith, low, e))) in
      let x = op (slice_index ws i) (slice_index b i) in
      set_split ws i x (omega (arith, low, long)) ∙ (λ m. take i ws ++ (x ∷ sym (drop-drop 1 i ws ∙ ap (λ k. drop k ws) (add-one i)) m))
      ∙ sym (put_chunk_is i ws (x ∷ []) (omega (arith, low, long))) ∙ (λ m. put_chunk i ws (zip2 op (sym first m) (sym second m))) ∙ lanes_made ws i 1 (i + 1) e refl (omega (arith, low)) part

-- an operation on each word, as an operation on two words that ignores the second
pub map_zipped : (f : ℕ → ℕ) (a b : List ℕ) → length a ≡ length b → map f a ≡ zip2 (λ x _. f x) a b
map_zipped f [] [] e = refl
map_zipped f (x ∷ a) (y ∷ b) e = ap (λ l. f x ∷ l) (map_zipped f a b (omega (arith, e)))
map_zipped f a b e = absurd (omega (arith, e))

-- `a & !b` on lanes
pub turned_lanes : (a b : List ℕ) → zip2 bit_and a (map (bit_not w64) b) ≡ zip2 (λ x y. bit_and x (bit_not w64 y)) a b
turned_lanes [] b = refl
turned_lanes (x ∷ a) [] = refl
turned_lanes (x ∷ a) (y ∷ b) = ap (λ l. bit_and x (bit_not w64 y) ∷ l) (turned_lanes a b)

-- `a ^` the result of an operation, on lanes
pub changed_lanes : (op : ℕ → ℕ → ℕ) (a b : List ℕ) → zip2 bit_xor a (zip2 op a b) ≡ zip2 (λ x y. bit_xor x (op x y)) a b
changed_lanes op [] b = refl
changed_lanes op (x ∷ a) [] = refl
changed_lanes op (x ∷ a) (y ∷ b) = ap (λ l. bit_xor x (op x y) ∷ l) (changed_lanes op a b)

-- ---- a list as chunks

chunk_at : {X : Type 0} (n k i : ℕ) (xs : List X) → i < k → get_or (first_chunks n k xs) i [] ≡ chunk (n * i) n xs
chunk_at n zero i xs low = absurd (omega (arith, low))
chunk_at n (suc k) zero xs low = let first : 0 ≡ n * 0 = omega arith in ap (λ m. chunk m n xs) first
chunk_at n (suc k) (suc i) xs low =
    let next : n + n * i ≡ n * suc i = omega arith in
    chunk_at n k i (drop n xs) (omega (arith, low)) ∙ ap (take n) (drop-drop (n * i) n xs ∙ ap (λ m. drop m xs) next)

-- a chunk in its place, and its length
pub chunk_here : (ws : List ℕ) (chunks : List (List ℕ)) (here : List ℕ) (k : ℕ) → chunks ≡ first_chunks 4 (length ws / 4) ws → length chunks ≡ length ws / 4 → k < length chunks → here ≡ get_or chunks k []
    → (here ≡ chunk (4 * k) 4 ws) × (length here ≡ 4)
chunk_here ws chunks here k front long low is =
    let same : here ≡ chunk (4 * k) 4 ws = is ∙ ap (λ cs. get_or cs k []) front ∙ chunk_at 4 _ k ws (omega (arith, low, long)) in
    (same, ap length same ∙ length-chunk (4 * k) 4 ws (omega (arith, low, long)))

-- ---- words that are all 0

abbrev pub none_in : List ℕ → Bool
none_in ws = list_all (λ w. w == 0) ws

pub or_none : (x y : ℕ) → (bit_or x y == 0) ≡ ((x == 0) && (y == 0))
or_none x y = grind (arith, nat_tests, le_or_l x y, le_or_r x y, or_zero_l y)

fold_none : (x : ℕ) (ws : List ℕ) → (fold_l bit_or x ws == 0) ≡ ((x == 0) && none_in ws)
fold_none x [] = sym (and-true (x == 0))
fold_none x (w ∷ ws) = fold_none (bit_or x w) ws ∙ ap (λ t. t && none_in ws) (or_none x w) ∙ and_assoc (x == 0) (w == 0) (none_in ws)

-- the lanes combined by `|` are 0 exactly if the first i words are, if all lanes are 0 exactly if these words are
pub lanes_ended : (ws lanes : List ℕ) (i j : ℕ) → none_in lanes ≡ none_in (take i ws) → i ≡ j → (fold_l bit_or 0 lanes == 0) ≡ none_in (take j ws)
lanes_ended ws lanes i j before same = fold_none 0 lanes ∙ before ∙ ap (λ k. none_in (take k ws)) same

zip_none : (a b : List ℕ) → length a ≡ length b → none_in (zip2 bit_or a b) ≡ (none_in a && none_in b)
zip_none [] [] e = refl
zip_none (x ∷ a) (y ∷ b) e = grind (arith, nat_tests, or_none x y, zip_none a b (omega (arith, e)))
zip_none a b e = absurd (omega (arith, e))

-- the test of the first j words, from the tests of the first i and of the next n
pub more_none : (ws : List ℕ) (i n j : ℕ) → j ≡ i + n → none_in (take j ws) ≡ (none_in (take i ws) && none_in (chunk i n ws))
more_none ws i n j next = ap (λ k. none_in (take k ws)) next ∙ ap none_in (take-add i n ws) ∙ list_all-append (λ w. w == 0) (take i ws) (chunk i n ws)

-- the test of the first i words and of four more, which are combined with the lanes by `|`
pub joined_none : (ws lanes more : List ℕ) (i j : ℕ) → more ≡ chunk i 4 ws → j ≡ i + 4 → j ≤ length ws → length lanes ≡ 4 → none_in lanes ≡ none_in (take i ws)
    → none_in (zip2 bit_or lanes more) ≡ none_in (take j ws)
joined_none ws lanes more i j is next long four before =
    ap (λ m. none_in (zip2 bit_or lanes m)) is
    ∙ zip_none lanes (chunk i 4 ws) (four ∙ sym (length-chunk i 4 ws (omega (arith, next, long)))) ∙ ap (λ t. t && none_in (chunk i 4 ws)) before ∙ sym (more_none ws i 4 j next)

-- the test of the first i words and of one more
pub one_none : (ws : List ℕ) (any w i j : ℕ) → w ≡ slice_index ws i → j ≡ i + 1 → i < length ws → (any == 0) ≡ none_in (take i ws) → (bit_or any w == 0) ≡ none_in (take j ws)
one_none ws any w i j is next low before =
    ap (λ v. bit_or any v == 0) is
    ∙ or_none any (slice_index ws i) ∙ ap (λ t. t && (slice_index ws i == 0)) before ∙ sym (ap (λ k. none_in (take k ws)) next ∙ list_all_more (λ w. w == 0) ws i 0 low)

-- steps of a loop over chunks of four words, and of a loop over the words past them
module _ (op : ℕ → ℕ → ℕ) (a b : List ℕ) (e : length a ≡ length b) where
  pub next_chunk : (us vs : List (List ℕ)) (lanes x y r : List ℕ) (k n : ℕ) → us ≡ first_chunks 4 (length a / 4) a → length us ≡ length a / 4 → vs ≡ first_chunks 4 (length b / 4) b → length vs ≡ length b / 4
      → k < length us → k < length vs → x ≡ get_or us k [] → y ≡ get_or vs k [] → r ≡ zip2 op x y → n ≡ k + 1 → length lanes ≡ 4
      → none_in lanes ≡ none_in (take (4 * k) (zip2 op a b)) → none_in (zip2 bit_or lanes r) ≡ none_in (take (4 * n) (zip2 op a b))
  next_chunk us vs lanes x y r k n front long front_b long_b low low_b at at_b is next four before =
      let first = chunk_here a us x k front long low at in
      let second = chunk_here b vs y k front_b long_b low_b at_b in
      joined_none (zip2 op a b) lanes r (4 * k) (4 * n) (is ∙ (λ i. zip2 op (first.0 i) (second.0 i)) ∙ sym (chunk-zip2 op (4 * k) 4 a b)) (omega (arith, next)) (omega (arith, next, low, long, length-zip2 op a b e)) four before

  pub next_word : (us vs : List ℕ) (any x y r k n : ℕ) → us ≡ drop (length a / 4 * 4) a → vs ≡ drop (length b / 4 * 4) b → k < length us → x ≡ slice_index us k → y ≡ slice_index vs k → r ≡ op x y → n ≡ k + 1
      → (any == 0) ≡ none_in (take (length a / 4 * 4 + k) (zip2 op a b)) → (bit_or any r == 0) ≡ none_in (take (length a / 4 * 4 + n) (zip2 op a b))
  next_word us vs any x y r k n rest rest_b low at at_b is next before =
      let i : ℕ = length a / 4 * 4 + k in
      let under : i < length a = omega (arith, low, ap length rest, length-drop (length a / 4 * 4) a) in
      let first = at ∙ ap (λ ws. slice_index ws k) rest ∙ get_or-drop (length a / 4 * 4) a k 0 in
      let second = at_b ∙ ap (λ ws. slice_index ws k) rest_b ∙ get_or-drop (length b / 4 * 4) b k 0 ∙ ap (λ m. slice_index b (m / 4 * 4 + k)) (sym e) in
      one_none (zip2 op a b) any r i (length a / 4 * 4 + n) (is ∙ (λ j. op (first j) (second j)) ∙ sym (get_or-zip2 op a b i 0 0 0 under (omega (arith, under, e)))) (omega (arith, next)) (omega (arith, under, length-zip2 op a b e)) before

  pub ended_words : (any n : ℕ) → length a ≤ n → (any == 0) ≡ none_in (take n (zip2 op a b)) → (any == 0) ≡ none_in (zip2 op a b)
  ended_words any n past before = before ∙ ap none_in (take_all n (zip2 op a b) (omega (arith, past, length-zip2 op a b e)))

-- `^` yields 0 only for equal words
xor_none : (x y : ℕ) → (bit_xor x y == 0) ≡ nat_eq x y
xor_none x y =
    let same : bit_xor x y ≡ 0 → x ≡ y = λ none. sym (xor_zero_r x) ∙ ap (bit_xor x) (sym (xor_self y)) ∙ sym (xor_assoc x y y) ∙ ap (λ z. bit_xor z y) none ∙ xor_zero_l y in
    grind (arith, nat_tests, xor_self y)

pub none_apart : (a b : List ℕ) → length a ≡ length b → none_in (zip2 bit_xor a b) ≡ pointwise nat_eq a b
none_apart [] [] e = refl
none_apart (x ∷ a) (y ∷ b) e = (λ i. xor_none x y i && none_apart a b (omega (arith, e)) i)
none_apart a b e = absurd (omega (arith, e))

-- ---- blocks of pairs of words, where `any` is 0 exactly if all results of a block are

module _ (op : ℕ → ℕ → ℕ) (a b : List ℕ) (i n any : ℕ) (here : (any == 0) ≡ none_in (zip2 op (chunk i n a) (chunk i n b))) where
  -- the test of the first i + n results
  with_block : none_in (take (i + n) (zip2 op a b)) ≡ (none_in (take i (zip2 op a b)) && (any == 0))
  with_block = more_none (zip2 op a b) i n (i + n) refl ∙ ap (λ t. none_in (take i (zip2 op a b)) && t) (ap none_in (chunk-zip2 op i n a b) ∙ sym here)

  -- if the results before a block and those of the block are 0, all up to its end are
  pub next_block : (j : ℕ) → j ≡ i + n → none_in (take i (zip2 op a b)) ≡ true → any ≡ 0 → none_in (take j (zip2 op a b)) ≡ true
  next_block j next before none = ap (λ k. none_in (take k (zip2 op a b))) next ∙ with_block ∙ grind (arith, nat_tests, before)

  -- if a result of the block is not 0, not all results are 0
  pub some_block : any ≢ 0 → false ≡ none_in (zip2 op a b)
  some_block some = let part = with_block in let whole = ap none_in (sym (take-append-drop (i + n) (zip2 op a b))) ∙ list_all-append (λ w. w == 0) (take (i + n) (zip2 op a b)) (drop (i + n) (zip2 op a b)) in grind (arith, nat_tests)

  -- if the results before the last block are 0, this block decides whether all results are 0
  last_block : i + n ≡ length a → length a ≡ length b → none_in (take i (zip2 op a b)) ≡ true → (any == 0) ≡ none_in (zip2 op a b)
  last_block all long before =
      let whole : take (i + n) (zip2 op a b) ≡ zip2 op a b = take_all (i + n) (zip2 op a b) (omega (arith, all, length-zip2 op a b long)) in
      sym (ap none_in (sym whole) ∙ with_block ∙ ap (λ t. t && (any == 0)) before)

-- if the results for k blocks of sixteen words are 0, the words after them decide whether all results are 0
pub last_words : (op : ℕ → ℕ → ℕ) (a b : List ℕ) (i k any : ℕ) → length a ≡ length b → i ≡ 16 * k → i ≤ length a → (any == 0) ≡ none_in (zip2 op (chunk i (length a - i) a) (chunk i (length b - i) b))
    → none_in (take (16 * k) (zip2 op a b)) ≡ true → (none_in (take i (zip2 op a b)) ≡ true) × ((any == 0) ≡ none_in (zip2 op a b))
last_words op a b i k any e is within here before =
    let n : ℕ = length a - i in
    let start = ap (λ j. none_in (take j (zip2 op a b))) is ∙ before in
    let as_many : length b - i ≡ n = omega (arith, e) in
    (start, last_block op a b i n any (here ∙ ap (λ m. none_in (zip2 op (chunk i n a) (chunk i m b))) as_many) (omega (arith, within)) e start)
