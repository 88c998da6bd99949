-- The contract of `state_update128`, as the toolchain takes it, asks nothing of a caller, and says `Steps` of the result and nothing else.
use mathlib.Core.Path.{◌≡◌, refl}
use seplogic.Ra.Ura.{Ura}
use base.Logic.{SProp, emp}
use prog.Memory.{Memory}
use prog.Routine.{Routine}
use types.Logic.{Logic}
use contract.Lifetimes.{Lfts}
use contract.Monad.{Fun, fact}
use denote.Triple.Clauses.{AtExit}
use denote.Triple.Entry.{Args, Res}
use Rattle.single_step.specs.Clauses.{Steps}
use Rattle.single_step.specs.contracts.state_update128 as update

module _ {M : Type 1} {𝓤 : Ura M} (𝓛 : Logic 𝓤) (mem : Memory → SProp 𝓤) (run : Routine → Fun 𝓤) (κs : Lfts 0) (a : Args update.signature κs) where
  asks : (update.clauses 𝓛 mem run κs a).requires tt ≡ emp 𝓤
  asks = refl

  says : (r : Res update.signature κs) (x : AtExit update.ended κs) → (update.clauses 𝓛 mem run κs a).ensures tt r x
      ≡ fact 𝓤 (Steps a.0 a.1.0 a.1.1.0 a.1.1.1.0 r.ks r.state)
  says r x = refl
