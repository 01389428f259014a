-- The body makes the marker and puts it into the struct; the count is the one that the caller picks.
use mathlib.Core.Path.{◌≡◌, refl}
use mathlib.Core.List.{[], ◌∷◌}
use seplogic.Ra.Ura.{Ura}
use mir.Val.{Val, vstruct, vcons, vnil}
use base.Logic.{ent, emp}
use base.Fml.{ftrue, fsep}
use contract.Monad.{fact_i}
use contract.Running.{tables}
use types.Logic.{Logic, sem}
use types.Kit.{‵, raw, ◌$◌, ◌∵◌, !, qed, move, keep, join, fjoin, fpack, suffices, frame, use0, by}
use types.Run.{no_more, and_then, returns, enter}
use types.ByLocal.{alloc_all, pass_all, free_all, look_at, get, sets}
use types.Part.{agg}
use denote.Builtin.{unit}
use denote.RattleType.{RattleType}
use denote.Shadow.{makes_shadow}
use denote.Steps.{nothing}
use denote.Struct.Struct.{Struct}
use denote.Triple.Entry.{on_entry}
use denote.Triple.Walked.{walk_of, ends_at}
use Rattle.std.proofs.raw_atomic.Walks.{proved}
use Rattle.std.specs.contracts.marker.PhantomData as marker
use Rattle.enumset_repr.specs.declared.asks.Asks.TheInside.{Inside}
use Rattle.enumset_repr.specs.contracts.asks.Asks.TheInside as inside
use Rattle.enumset_repr.specs.contracts.asks.Asks.counted as f
use Rattle.enumset_repr.proofs.asks.Asks.counted.Statement.{statement}
use Rattle.enumset_repr.proofs.asks.Asks.counted.Code as code

-- the one machine value
abbrev token : Val
token = vstruct (vcons (vstruct vnil) vnil)

-- the fields alone, which own no memory
abbrev Fields : RattleType
Fields = Struct (record { name = (inside.the_type).name; args = []; types = []; fields = (marker.the_field unit).row ∷ [] })

made : {M : Type 1} {𝓤 : Ura M} (𝓛 : Logic 𝓤) → ent 𝓤 (emp 𝓤) (sem 𝓛 (Fields.own_val (tt, tt) (token ∷ [])))
made 𝓛 = makes_shadow 𝓛 (Fields.own_val (tt, tt) (token ∷ [])) (λ vss. (tt, ((λ uss. (tt, tt)), tt))) ((vstruct vnil ∷ [], tt), (refl, ((tt, (refl, tt)), tt)))

pub counted_spec : {M : Type 1} → statement M
counted_spec 𝓤 𝓛 𝓜 𝓡 wired =
    let c = f.clauses 𝓛 𝓜.mem 𝓡.returns in let W = walk_of 𝓛 f.ended tt c in let 𝓣 = tables 𝓤 𝓛.H 𝓜 𝓡 𝓡.env in
    proved 𝓛 f.ended tt c 𝓜 𝓡 tt
    f.Key.name code.function (code.unfolded 𝓤 𝓛.H 𝓜 𝓡 wired)
    (λ κs. tt) (λ κs. tt) (λ κs qs bounds a n are.
    let y : W.Ghost = ((κs, qs, bounds, a, tt), n) in
    qed 𝓛 (raw (on_entry 𝓛 f.signature κs qs a tt) ∷ raw ((c κs a).requires n) ∷ []) ∵ keep ! [] $
    enter ! 𝓣.C 𝓣.Λ code.function [] _ $ alloc_all ! (λ l. pass_all ! refl tt $
    sets ! (agg ! (no_more !)) refl (tt, tt) $ sets ! (agg ! (and_then ! (get ! refl) (no_more !))) refl (tt, (tt, tt)) $
    returns ! (look_at ! 0 refl) $ free_all ! refl $
    suffices ! _ (ends_at 𝓛 f.ended tt c y token n tt tt) $
    use0 𝓛 (‵ (Fields.own_val (tt, tt) (token ∷ []))) (made 𝓛) $
    nothing ! $ move ! (1 ∷ 0 ∷ []) $ fjoin ! $ nothing ! $ move ! (1 ∷ 0 ∷ []) $ fjoin ! $
    fpack ! ((u : Inside) × ((u.count ≡ n) × Unit {0})) (λ x. fsep ((inside.the_row).own_val x.0 (token ∷ [])) ftrue) (record { marker = record {}; count = n }, (refl, tt)) $
    nothing ! $ join ! $ nothing ! $ join ! $ frame ! $ by ! (fact_i 𝓤 _ _ refl)))
