-- The frame of a case (compare/README.md, The fixed sample): a byte of kind, four bytes of length, the body.
use Rattle.std.specs.Prelude.{ℕ, cond, List, ltb, length, get_or, Option, Some, None}
use Rattle.byte_order.specs.Big.{big_at}
use Rattle.cases.specs.Number.{further}
use Rattle.cases.specs.declared.frame.Case.{Case}

-- where the body of the case at a position ends, by its length
abbrev pub body_end : List ℕ → ℕ → ℕ
body_end s at = further (further at 5) (big_at 4 s (further at 1))

-- the case at a position, if it is not cut
abbrev pub case_at : List ℕ → ℕ → Option Case
case_at s at =
    cond (ltb (length s) (body_end s at)) None
    (Some (record { kind = get_or s at 0; start = further at 5; end = body_end s at }))
