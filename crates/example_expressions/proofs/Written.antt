-- A text that is written part by part.
--     IsWritten      what was written so far, with the rest, is the whole
--     one_more      a separator and a text are written
use Rattle.std.proofs.Common.{◌≡◌, ℕ, List, ◌++◌, Ok, sym, ap, ◌∙◌, append_assoc}
use Rattle.std.specs.Fmt.{WritesOnOk}
use Rattle.std.specs.declared.fmt.Formatter.{Formatter}
use Rattle.std.proofs.Output.{writes_on_IsOk-append}

pub record IsWritten {W : Type 0} (took : W → List ℕ → W → Type 0) (f : Formatter W) (whole : List ℕ) (rest : List ℕ) (g : Formatter W) : Type 0 where
  pub done : List ℕ
  pub wrote : WritesOnOk took f (Ok tt) done g
  pub together : done ++ rest ≡ whole

module _ {W : Type 0} (took : W → List ℕ → W → Type 0) (f g h k : Formatter W) (whole : List ℕ) where
  pub one_more : (left between text rest : List ℕ) → IsWritten took f whole left g → left ≡ between ++ (text ++ rest) → WritesOnOk took g (Ok tt) between h → WritesOnOk took h (Ok tt) text k → IsWritten took f whole rest k
  one_more left between text rest before parts separated wrote = record {
    done = (before.done ++ between) ++ text;
    wrote = writes_on_IsOk-append took f h k (Ok tt) (Ok tt) (before.done ++ between) text (λ ok. ok) (writes_on_IsOk-append took f g h (Ok tt) (Ok tt) before.done between (λ ok. ok) before.wrote separated) wrote;
    together = append_assoc (before.done ++ between) text rest ∙ append_assoc before.done between (text ++ rest) ∙ ap (λ bs. before.done ++ bs) (sym parts) ∙ before.together;
  }
