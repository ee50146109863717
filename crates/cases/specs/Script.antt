-- The calls of a script (compare/README.md, The fixed sample, the table of calls): where each ends, and the run of bytes that one is given.
use Rattle.std.specs.Prelude.{ℕ, ◌+◌, ◌*◌, cond, List, [], ltb, eqb, length, get_or, slice_range, Option, Some, None}
use Rattle.byte_order.specs.Big.{big_at}
use Rattle.cases.specs.Number.{further}
use Rattle.cases.specs.declared.script.CallKind.{CallKind}
use Rattle.cases.specs.declared.script.CallKind.TheVariants.{Format, Tag, Labels, Configure, Header, Data, Samples, Finish, Resume, ResumeFrom, Cut}

-- where "numbers" end that start at p: a count, and so many numbers of four bytes
abbrev pub after_numbers : List ℕ → ℕ → ℕ
after_numbers s p = further p (4 + big_at 4 s p * 4)

-- where "bytes" end: a length, and so many bytes
abbrev pub after_bytes : List ℕ → ℕ → ℕ
after_bytes s p = further (further p 4) (big_at 4 s p)

-- the kind of call that a byte tells, row by row of the table
unfoldable pub kind_of : ℕ → Option CallKind
kind_of byte =
    cond (eqb byte 1) (Some Format)
    (cond (eqb byte 2) (Some Tag)
    (cond (eqb byte 3) (Some Labels)
    (cond (eqb byte 4) (Some Configure)
    (cond (eqb byte 5) (Some Header)
    (cond (eqb byte 6) (Some Data)
    (cond (eqb byte 7) (Some Samples)
    (cond (eqb byte 8) (Some Finish)
    (cond (eqb byte 9) (Some Resume)
    (cond (eqb byte 10) (Some ResumeFrom)
    (cond (eqb byte 11) (Some Cut)
    None))))))))))

-- where a call of this kind ends whose bytes start at p; one that has none, or is no call, ends where it starts
abbrev pub after_call : Option CallKind → List ℕ → ℕ → ℕ
after_call (Some Format) s p = further p 18
after_call (Some Tag) s p = further p 4
after_call (Some Labels) s p = after_numbers s (further p 4)
after_call (Some Configure) s p = after_numbers s (further p 16)
after_call (Some Data) s p = after_bytes s p
after_call (Some Samples) s p = after_numbers s p
after_call (Some ResumeFrom) s p = after_bytes s p
after_call _ s p = p

-- a cut has four bytes, and then the call that is cut
abbrev pub end_of_kind : Option CallKind → List ℕ → ℕ → ℕ
end_of_kind (Some Cut) s p = after_call (kind_of (get_or s (further p 4) 0)) s (further (further p 4) 1)
end_of_kind kind s p = after_call kind s p

-- where the call at p ends
abbrev pub end_of : List ℕ → ℕ → ℕ
end_of s p = end_of_kind (kind_of (get_or s p 0)) s (further p 1)

-- the "bytes" at p; none where the case is shorter
abbrev pub bytes_at : List ℕ → ℕ → List ℕ
bytes_at s p = cond (ltb (length s) (after_bytes s p)) [] (slice_range s (further p 4) (after_bytes s p))
