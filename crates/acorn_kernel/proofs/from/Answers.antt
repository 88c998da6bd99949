-- `acorn_kernel::from` meets its contract.
use Prim.Native.Nat.{◌+◌, ◌-◌}
use native.Mathlib.Omega.{arith}
use Rattle.acorn_kernel.proofs.StateWords.{from_place, at0, at1, at2, at3, at4, at5, end0, end1, end2, end3, end4, end5}
use Rattle.acorn_kernel.proofs.from.Goals as goal

pub returns-in-0-to-60 : goal.returns-in-0-to-60
returns-in-0-to-60 c =
    let a = c.args in
    let n = a.p in
    from_place a.s 0 3 61 a.s.w0 (n + 3) n (at0 a.s) (omega arith) (omega arith) (omega (arith, end0 n (omega arith)))

pub returns-in-61-to-106 : goal.returns-in-61-to-106
returns-in-61-to-106 c =
    let a = c.args in
    let n = a.p in
    from_place a.s 61 18 46 a.s.w1 (n - 43) n (at1 a.s) (omega arith) (omega arith) (omega (arith, end1 n (omega arith) (omega arith)))

pub returns-in-107-to-153 : goal.returns-in-107-to-153
returns-in-107-to-153 c =
    let a = c.args in
    let n = a.p in
    from_place a.s 107 17 47 a.s.w2 (n - 90) n (at2 a.s) (omega arith) (omega arith) (omega (arith, end2 n (omega arith) (omega arith)))

pub returns-in-154-to-192 : goal.returns-in-154-to-192
returns-in-154-to-192 c =
    let a = c.args in
    let n = a.p in
    from_place a.s 154 25 39 a.s.w3 (n - 129) n (at3 a.s) (omega arith) (omega arith) (omega (arith, end3 n (omega arith) (omega arith)))

pub returns-in-193-to-229 : goal.returns-in-193-to-229
returns-in-193-to-229 c =
    let a = c.args in
    let n = a.p in
    from_place a.s 193 27 37 a.s.w4 (n - 166) n (at4 a.s) (omega arith) (omega arith) (omega (arith, end4 n (omega arith) (omega arith)))

pub returns-in_default : goal.returns-in_default
returns-in_default c =
    let a = c.args in
    let n = a.p in
    from_place a.s 230 1 63 a.s.w5 (n - 229) n (at5 a.s) (omega arith) (omega arith) (omega (arith, end5 n (omega arith)))
