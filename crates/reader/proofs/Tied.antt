-- The contracts in the source, as the toolchain takes them, ask nothing of a caller, and say of the result what `Reading` speaks of and nothing
-- else: `ReaderList` is made of the contracts alone.
use mathlib.Core.Path.{◌≡◌, refl}
use seplogic.Ra.Ura.{Ura}
use base.Logic.{SProp, emp}
use prog.Memory.{Memory}
use prog.Routine.{Routine}
use types.Logic.{Logic}
use contract.Lifetimes.{Lfts}
use contract.Monad.{Fun, fact}
use denote.Triple.Clauses.{AtExit}
use denote.Triple.Entry.{Args, Res}
use Rattle.tape_model.specs.Reader.{read_next}
use Rattle.reader.specs.Clauses.{reader_at, read_outcome, Made, NextCalled}
use Rattle.reader.specs.contracts.read_at as read
use Rattle.reader.specs.contracts.Reader.new as new
use Rattle.reader.specs.contracts.Reader.next as next

module _ {M : Type 1} {𝓤 : Ura M} (𝓛 : Logic 𝓤) (mem : Memory → SProp 𝓤) (run : Routine → Fun 𝓤) (κs : Lfts 1) where
  module _ (a : Args read.signature κs) where
    read_at_asks : (read.clauses 𝓛 mem run κs a).requires tt ≡ emp 𝓤
    read_at_asks = refl

    read_at-says : (r : Res read.signature κs) (x : AtExit read.ended κs) → (read.clauses 𝓛 mem run κs a).ensures tt r x
        ≡ fact 𝓤 (read_outcome a.0.now r ≡ read_next (reader_at a.0.now a.1.0))
    read_at-says r x = refl

  module _ (a : Args new.signature κs) where
    new_asks : (new.clauses 𝓛 mem run κs a).requires tt ≡ emp 𝓤
    new_asks = refl

    new_says : (r : Res new.signature κs) (x : AtExit new.ended κs) → (new.clauses 𝓛 mem run κs a).ensures tt r x ≡ fact 𝓤 (Made a.0 r)
    new_says r x = refl

  module _ (a : Args next.signature κs) where
    next_asks : (next.clauses 𝓛 mem run κs a).requires tt ≡ emp 𝓤
    next_asks = refl

    next_says : (h : Res next.signature κs) (x : AtExit next.ended κs) → (next.clauses 𝓛 mem run κs a).ensures tt h x ≡ fact 𝓤 (NextCalled a.0 h)
    next_says h x = refl
