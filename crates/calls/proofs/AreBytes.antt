-- Lists of bytes: joined, and cut.
use mathlib.Core.List.{List, [], ◌∷◌, ◌++◌}
use Prim.Native.Nat.{ℕ, zero, suc}
use native.Mathlib.Omega.{arith}
use lib.ListN.{take}
use Rattle.calls.specs.Calls.{AreBytes}

pub append_are_bytes : (l k : List ℕ) → AreBytes l → AreBytes k → AreBytes (l ++ k)
append_are_bytes [] k h g p = g p
append_are_bytes (x ∷ l) k h g zero = h 0
append_are_bytes (x ∷ l) k h g (suc p) = append_are_bytes l k (λ q. h (suc q)) g p

pub take_are_bytes : (n : ℕ) (l : List ℕ) → AreBytes l → AreBytes (take n l)
take_are_bytes zero l h p = omega arith
take_are_bytes (suc n) [] h p = omega arith
take_are_bytes (suc n) (x ∷ l) h zero = h 0
take_are_bytes (suc n) (x ∷ l) h (suc p) = take_are_bytes n l (λ q. h (suc q)) p
