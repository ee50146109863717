use Prim.Native.Nat.{◌+◌, ◌/◌, ◌≤◌}
use native.Mathlib.Nat.{mul-le-mul}
use native.Mathlib.Omega.{arith}
use borrow.Author.Tests.{le-leb, lt-leb}
use borrow.Author.Rules.{rules}
use Rattle.format.proofs.packet.bytes_per_packet.Goals as goal

pub overflow_mul-bytes : goal.overflow_mul-bytes
overflow_mul-bytes c =
    let a = c.args in
    let bytes : (a.bits + 7) / 8 ≤ 0x2000_0000 = omega arith in
    let many : a.channels ≤ 0xFFFF_FFFF = omega arith in
    omega (arith, mul-le-mul bytes many)

pub returns-then-bytes-ge-FOUR_BYTES : goal.returns-then-bytes-ge-FOUR_BYTES
returns-then-bytes-ge-FOUR_BYTES c = rw (le-leb _ _ c.if-bytes-ge-FOUR_BYTES.true)

pub returns : goal.returns
returns c = rw (lt-leb _ _ c.if-bytes-ge-FOUR_BYTES.false)
