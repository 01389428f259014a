-- What is read, one part after another.
use Rattle.std.proofs.Common.{◌≡◌, ◌↔◌, ℕ, List, [], ◌∷◌, ◌++◌, false, true, Result, Ok, Err, IsOk, IsErr, Option, Some, map, refl, ap, sym, append_assoc}
use Rattle.example_permissions.specs.Answers.{grant_seen}
use Rattle.example_permissions.specs.declared.policy.Grant.{Grant}
use Rattle.serde_json.specs.Data.{Data}
use Rattle.enumset.specs.Sets.{BitSet, empty}
use Rattle.example_permissions.specs.declared.policy.User.{User}
use Rattle.example_permissions.specs.Reading.{Trouble, ◌>>=◌, grant_in, grants_in, rights_in, request_in}

-- ---- grants

-- the grants so far, and then the remaining ones
abbrev pub after : List (ℕ × BitSet) → Result (List (ℕ × BitSet)) Trouble → Result (List (ℕ × BitSet)) Trouble
after done later = later >>= (λ more. Ok (done ++ more))

after_with : (done : List (ℕ × BitSet)) (grant : ℕ × BitSet) (later : Result (List (ℕ × BitSet)) Trouble) → after done (later >>= (λ more. Ok (grant ∷ more))) ≡ after (done ++ grant ∷ []) later
after_with done grant (Ok later) = ap Ok (sym (append_assoc done (grant ∷ []) later))
after_with done grant (Err trouble) = refl

pub after_more : (done : List (ℕ × BitSet)) (member : List ℕ × Data) (members : List (List ℕ × Data)) (grant : ℕ × BitSet) → grant_in member ≡ Ok grant → after done (grants_in (member ∷ members)) ≡ after (done ++ grant ∷ []) (grants_in members)
after_more done member members grant is = rw is (after_with done grant (grants_in members))

pub seen_more : (grants : List Grant) (grant : Grant) → map grant_seen (grants ++ grant ∷ []) ≡ map grant_seen grants ++ grant_seen grant ∷ []
seen_more [] grant = refl
seen_more (g ∷ grants) grant = ap (λ rest. grant_seen g ∷ rest) (seen_more grants grant)

-- ---- requests

-- the user is known, and the rights are read or not
pub request_right : (users : List ℕ → Option User) (words : List (List ℕ)) (name : List ℕ) (more : List (List ℕ)) (user : User) (asked : BitSet) → words ≡ name ∷ more → users name ≡ Some user → rights_in empty more ≡ Ok asked → request_in users words ≡ Ok (Some (user, asked))
request_right users words name more user asked cut known read = rw (cut, known, read) refl

pub request_wrong : (users : List ℕ → Option User) (words : List (List ℕ)) (name : List ℕ) (more : List (List ℕ)) (user : User) (trouble : Trouble) → words ≡ name ∷ more → users name ≡ Some user → rights_in empty more ≡ Err trouble → request_in users words ≡ Err trouble
request_wrong users words name more user trouble cut known read = rw (cut, known, read) refl

-- a fault is no answer
pub not_answered : {A E : Type 0} (r : Result A E) → IsErr r → IsOk r ↔ (false ≡ true)
not_answered (Ok a) err = (λ ok. err, λ no. refl)
not_answered (Err e) err = (λ no. no, λ no. no)
