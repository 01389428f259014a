use Rattle.std.proofs.Common.{◌≡◌, ℕ, List, not, find, filter_map}
use Rattle.std.specs.List.{list_all}
use Rattle.enumset.specs.Sets.{from_list, union}
use Rattle.example_set_facts.specs.Texts.{titled, is_title, parts}
use Rattle.example_set_facts.proofs.PartLaws.{AreLeft}
use Rattle.example_set_facts.proofs.texts.read_titles.Given as goal

-- the parts before those that are left are titles, and their permissions are granted
abbrev pub invariant-loop-part : goal.invariant-loop-part
invariant-loop-part l =
    (rest : List (List ℕ)) × AreLeft l.part-iterator rest
    × (union l.granted (from_list (filter_map titled rest)) ≡ from_list (filter_map titled (parts l.text)))
    × (list_all is_title (parts l.text) ≡ list_all is_title rest)
    × (find (λ t. not (is_title t)) (parts l.text) ≡ find (λ t. not (is_title t)) rest)
