-- Names in JSON, one variant at a time.
use Rattle.std.proofs.Common.{List, [], ◌∷◌, ◌++◌, Option, String, string_bytes}
use Rattle.enumset_source.specs.declared.styles.Style.{Style}
use Rattle.enumset_derive.specs.JsonNames.{IsJsonName, AreJsonNames}
use Rattle.enumset_derive.specs.declared.plan.declaration.Variant.{Variant}

pub one_more : {Z : Type 0} → (style : Option Style) (vs : List Variant) (names : List (String Z)) (v : Variant) (name : String Z) → AreJsonNames style vs names → IsJsonName style v (string_bytes name) → AreJsonNames style (vs ++ v ∷ []) (names ++ name ∷ [])
one_more style [] [] v name all one = (one, tt)
one_more style [] (n ∷ names) v name all one = absurd all
one_more style (w ∷ vs) [] v name all one = absurd all
one_more style (w ∷ vs) (n ∷ names) v name all one = (all.0, one_more style vs names v name all.1 one)
