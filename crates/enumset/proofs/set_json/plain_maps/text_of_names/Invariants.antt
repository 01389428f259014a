use Rattle.std.proofs.Common.{string_bytes, ◌∷◌, [], map, drop}
use Rattle.enumset.proofs.JsonLists.{Writes}
use Rattle.enumset.proofs.MapsWritten.{closed}
use Rattle.enumset.proofs.set_json.plain_maps.text_of_names.Given as goal

-- the text so far and the names that are left make the whole text; all names are plain if those left are
abbrev pub invariant-loop-name : goal.invariant-loop-name
invariant-loop-name l = Writes (123 ∷ []) closed (125 ∷ []) (map (λ n. n.now) l.names) (string_bytes l.text) (map (λ n. n.now) (drop l.name-index l.names))
