-- A buffer that is lent anew, or grows, holds the same file.
use mathlib.Core.Path.{◌≡◌, sym, ◌∙◌, ap}
use mathlib.Core.List.{List, ◌++◌, append_assoc}
use Prim.Native.Nat.{ℕ, ◌+◌, ◌≤◌}
use native.Mathlib.Omega.{arith}
use lib.ListN.{length, take, drop, length-append}
use lib.Seq.{take-append_seam, length-take-le}
use Rattle.byte_order.specs.Splice.{splice}
use Rattle.recovery.specs.Cut.{Remains, file_of}
use Rattle.recovery.specs.Sessions.{lent_again}

-- for a session
pub lent-file : (r : Remains) (beyond : List ℕ) → file_of (lent_again r beyond) ≡ file_of r
lent-file r beyond = take-append_seam (file_of r) beyond

-- within one
pub grown-file : (n : ℕ) (buf more : List ℕ) → n ≤ length buf → take n (splice buf n more) ≡ take n buf
grown-file n buf more l =
    let file = take n buf in
    let rest = drop (n + length more) buf in
    ap (take n) (append_assoc file more rest)
    ∙ ap (λ (k : ℕ). take k (file ++ (more ++ rest))) (sym (length-take-le n buf l)) ∙ take-append_seam file (more ++ rest)

pub grown-room : (n : ℕ) (buf more : List ℕ) → n ≤ length buf → n ≤ length (splice buf n more)
grown-room n buf more l = rw (length-append, length-append) (omega (arith, length-take-le n buf l))
