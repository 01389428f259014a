-- What `retain` leaves of a set, by the calls of its closure.
--     Keeps      one call: the element stays exactly if the call returned true
--     RetainsTo      the calls of a closure for the elements of a set, one for each, ascending by bit, changed the
--         closure from one value to another, and left a second set
--     Retains      the calls of a closure for the elements of a set, one for each, ascending by bit, left a second set,
--         whatever value the closure has in the end
--     IsTest      each call, whatever the closure has captured, returns the result of a test of the element's bit
--     IsConstantTest      each call of a closure returns the result of a test of the element's bit, and does not change
--         what the closure captured
use Rattle.std.specs.Fn.{Mut, Called}
use Rattle.std.specs.List.{FoldsTo}
use Rattle.std.specs.Prelude.{◌≡◌, ℕ, Bool, if◌then◌else◌, List, map}
use Rattle.enumset_repr.specs.BitSet.{BitSet, ascending, remove}

abbrev pub Keeps : {T F : Type 0} → (T → ℕ) → Mut F (T × Unit {0}) Bool → F × BitSet → T → F × BitSet → Type 0
Keeps bit g p x q = (b : Bool) × Called g p.0 (x, tt) b q.0 × (q.1 ≡ (if b then p.1 else remove p.1 (bit x)))

abbrev pub RetainsTo : {T F : Type 0} → (T → ℕ) → Mut F (T × Unit {0}) Bool → F → F → BitSet → BitSet → Type 0
RetainsTo {T} bit g f last s t = (xs : List T) × (map bit xs ≡ ascending s) × FoldsTo (Keeps bit g) (f, s) xs (last, t)

abbrev pub Retains : {T F : Type 0} → (T → ℕ) → Mut F (T × Unit {0}) Bool → F → BitSet → BitSet → Type 0
Retains {F = F} bit g f s t = (last : F) × RetainsTo bit g f last s t

abbrev pub IsTest : {T F : Type 0} → (T → ℕ) → Mut F (T × Unit {0}) Bool → (ℕ → Bool) → Type 0
IsTest {T} {F} bit g p = (t : T) (f : F) (b : Bool) (f' : F) → Called g f (t, tt) b f' → b ≡ p (bit t)

abbrev pub IsConstantTest : {T F : Type 0} → (T → ℕ) → Mut F (T × Unit {0}) Bool → F → (ℕ → Bool) → Type 0
IsConstantTest {T} {F} bit g f p = (t : T) (b : Bool) (f' : F) → Called g f (t, tt) b f' → (b ≡ p (bit t)) × (f' ≡ f)
