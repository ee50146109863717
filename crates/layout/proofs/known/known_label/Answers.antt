use Prim.Native.Nat.{◌/◌}
use mathlib.Core.Path.{◌≡◌, sym, ◌∙◌}
use mathlib.Core.Bool.{true}
use native.Mathlib.Omega.{arith}
use borrow.Author.Tests.{lt-ltb, le-ltb, eq-eqb}
use Rattle.layout.proofs.Listed.{one_of, none_of}
use Rattle.layout.proofs.ByTests.{apart, known_by_tests, by_tests, only-apart}
use Rattle.layout.proofs.known.known_label.Goals as goal

pub returns-then-n-lt64 : goal.returns-then-n-lt64
returns-then-n-lt64 c =
    let n = c.args.n in
    let is : known_by_tests n ≡ c.has_bit.result = rw (lt-ltb n 64 (omega arith)) (sym c.has_bit.ensures) in sym is ∙ by_tests n

pub returns-then-is_coincident : goal.returns-then-is_coincident
returns-then-is_coincident c =
    let n = c.args.n in
    let in-run = sym c.is_coincident.ensures ∙ c.if-is_coincident.true in
    let is : known_by_tests n ≡ true = rw (le-ltb n 64 (omega arith), in-run) in sym is ∙ by_tests n

pub returns-then-n : goal.returns-then-n
returns-then-n c =
    let n = c.args.n in
    let out = sym c.is_coincident.ensures ∙ c.if-is_coincident.false in
    let is : known_by_tests n ≡ c.has_bit-then-n.result =
    rw (le-ltb n 64 (omega arith), out, eq-eqb (n / 64) 4 c.if-n.true) (sym c.has_bit-then-n.ensures) in sym is ∙ by_tests n

pub returns-in-4294967295 : goal.returns-in-4294967295
returns-in-4294967295 c =
    let n = c.args.n in
    let out = sym c.is_coincident.ensures ∙ c.if-is_coincident.false in
    sym (one_of n apart c.in-4294967295.is) ∙ only-apart n (omega arith) out c.if-n.false

pub returns-in_default : goal.returns-in_default
returns-in_default c =
    let n = c.args.n in
    let out = sym c.is_coincident.ensures ∙ c.if-is_coincident.false in
    sym (none_of n apart c.in_default.in_default-own.rest.1) ∙ only-apart n (omega arith) out c.if-n.false
