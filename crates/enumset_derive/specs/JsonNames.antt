-- The names of variants in JSON.
--     IsNameOf, IsJsonName      whether a name is that of a variant in JSON: the name that it is given, or else its own in the
--         style of the enum, if both could be read
--     AreJsonNames      whether these are the names of variants in JSON, in their order
use Rattle.std.specs.Prelude.{◌≡◌, ℕ, List, [], ◌∷◌, Option, Some, String, IsUtf8, string_bytes, ⊤}
use Rattle.enumset_source.specs.Styles.{styled}
use Rattle.enumset_source.specs.declared.styles.Style.{Style}
use Rattle.enumset_derive.specs.declared.plan.declaration.Rename.{Rename}
use Rattle.enumset_derive.specs.declared.plan.declaration.Rename.TheVariants.{Own, Given}
use Rattle.enumset_derive.specs.declared.plan.declaration.Variant.{Variant}

abbrev pub IsNameOf : Option Style → List ℕ → Rename → List ℕ → Type 0
IsNameOf style own (Given given place) name = name ≡ given.now
IsNameOf (Some style) own Own name = IsUtf8 (styled style own) → name ≡ styled style own
IsNameOf style own rename name = name ≡ own

abbrev pub IsJsonName : Option Style → Variant → List ℕ → Type 0
IsJsonName style v name = IsNameOf style v.name.now v.rename name

abbrev pub AreJsonNames : {Z : Type 0} → Option Style → List Variant → List (String Z) → Type 0
AreJsonNames style [] [] = ⊤
AreJsonNames style (v ∷ vs) (name ∷ names) = IsJsonName style v (string_bytes name) × AreJsonNames style vs names
AreJsonNames style vs names = ⊥
