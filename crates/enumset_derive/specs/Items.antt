-- Which items of a source are left out.
--     names_element_type, is_element_type      whether an attribute, or an item, derives `EnumSetType`, perhaps under `cfg_attr`
--     is_import      whether tokens are an import, or an item that is empty
--     is_left_out      whether an item is left out: it is neither an element type nor an import
use Rattle.std.specs.Prelude.{ℕ, Bool, true, false, ◌&&◌, ◌||◌, not, List, [], ◌∷◌, codes, nat_eq}
use Rattle.std.specs.List.{list_any}
use Rattle.std.specs.Cmp.Lexicographic.{pointwise}
use Rattle.enumset_source.specs.Sources.{has_text}
use Rattle.enumset_source.specs.declared.tokens.Token.{Token}
use Rattle.enumset_derive.specs.declared.items.Item.{Item}
use Rattle.enumset_derive.specs.declared.items.attribute.Attribute.{Attribute}

abbrev pub names_element_type : Attribute → Bool
names_element_type a =
    (has_text a.name (codes "derive") || has_text a.name (codes "cfg_attr"))
    && list_any (λ w. has_text w (codes "EnumSetType")) a.words.items

abbrev pub is_element_type : Item → Bool
is_element_type i = list_any names_element_type i.attributes.items

-- `use`, `;` or `extern crate`
abbrev pub is_import : List Token → Bool
is_import [] = true
is_import (t ∷ []) = has_text t (codes "use") || has_text t (codes ";")
is_import (t ∷ u ∷ ts) = has_text t (codes "use") || has_text t (codes ";") || (has_text t (codes "extern") && has_text u (codes "crate"))

abbrev pub is_left_out : Item → Bool
is_left_out i = not (is_import i.tokens.now) && not (is_element_type i)
