-- In a file of the grammar the search finds the first `chan` before the data.
use mathlib.Core.Path.{◌≡◌, refl, sym, ◌∙◌, ap}
use mathlib.Core.Bool.{Bool, true, false, cond}
use mathlib.Core.List.{List, [], ◌∷◌, ◌++◌, append_assoc}
use mathlib.Core.Option.{some}
use Prim.Native.Nat.{ℕ, ◌+◌, ◌<◌}
use native.Mathlib.Omega.{arith}
use lib.ListN.{length, take, drop, length-append}
use lib.Seq.{take-append_seam, drop-append_seam}
use borrow.Author.Tests.{le-ltb}
use Rattle.byte_order.specs.Same.{exactly}
use Rattle.byte_order.proofs.Same.{exactly-no}
use Rattle.format.specs.Desc.{desc_body}
use Rattle.reading.specs.Types.{'chan', 'desc', 'data', negative}
use Rattle.reading.specs.Step.{left, stands_at, size_at, body_at}
use Rattle.reading.specs.Table.{four_at}
use Rattle.reading.specs.Grammar.{file_header, chunk_header, chunk, OtherChunk, OthersAllowed, other_chunks, bytes_of}
use Rattle.reading.proofs.Front.{after-left, after-four, after-size, its-type, its-size, its-length}
use Rattle.reading.proofs.Sound.{sound}
use Rattle.chan_reading.specs.First.{first_chan}
use Rattle.chan_reading.specs.Find.{find_from, find_chan, bytes_at}
use Rattle.chan_reading.specs.Claims.{FoundIsFirst, FoundOfStrict}
use Rattle.std.proofs.Common.{Option, Some, None}
use Rattle.reading.specs.declared.Body.{Body}
use Rattle.chan_reading.proofs.Parts.{differs, desc-small, size_of, after_size, parts}
use Rattle.chan_reading.proofs.FindOn.{find-on}

-- at the data the search ends
at-data : (pre tail : List ℕ) (size : ℕ) → find_from (pre ++ (chunk_header 'data' size ++ tail)) (length pre) ≡ None
at-data pre tail size =
    let rest = chunk_header 'data' size ++ tail in
    let n = after-left pre rest in
    let t : stands_at (pre ++ rest) (length pre) 'data' ≡ true = ap (λ (x : List ℕ). exactly x 'data') (after-four pre rest) in
    find-on (pre ++ rest) (length pre) ∙ rw (le-ltb (left (pre ++ rest) (length pre)) 12 (omega arith), t)

-- a chunk that is neither the data nor too big for its size field
module _ (pre type body more : List ℕ) (four : length type ≡ 4) (not-data : type ≡ 'data' → ⊥) (small : length body < negative) where
  abbrev there : List ℕ
  there = chunk type body ++ more

  abbrev file : List ℕ
  file = pre ++ there

  type-there : four_at file (length pre) ≡ type
  type-there = after-four pre there ∙ its-type type body more four

  size-there : size_at file (length pre) ≡ length body
  size-there = after-size pre there ∙ its-size type body more four small

  at-chunk : find_from file (length pre) ≡ cond (exactly type 'chan') (Some (record { start = body_at (length pre); size = length body })) (find_from file (body_at (length pre) + length body))
  at-chunk =
      let l = its-length type body more four in
      let n = after-left pre there in
      let d : stands_at file (length pre) 'data' ≡ false = ap (λ (x : List ℕ). exactly x 'data') type-there ∙ exactly-no type 'data' not-data in
      let c : stands_at file (length pre) 'chan' ≡ exactly type 'chan' = ap (λ (x : List ℕ). exactly x 'chan') type-there in
      find-on file (length pre)
      ∙ rw (le-ltb (left file (length pre)) 12 (omega arith), d, size-there, le-ltb (left file (body_at (length pre))) (length body) (omega arith), c)

  front-there : length (pre ++ chunk_header type (length body)) ≡ body_at (length pre)
  front-there = simp length-append (omega arith)

  -- where the next chunk begins
  end-there : length (pre ++ chunk type body) ≡ body_at (length pre) + length body
  end-there = simp length-append (omega arith)

  body-there : take (length body) (drop (body_at (length pre)) file) ≡ body
  body-there =
      let head = chunk_header type (length body) in
      let e : file ≡ (pre ++ head) ++ (body ++ more) = ap (λ (x : List ℕ). pre ++ x) (append_assoc head body more) ∙ sym (append_assoc pre head (body ++ more)) in
      rw (e, ← front-there, drop-append_seam (pre ++ head) (body ++ more), take-append_seam body more)

-- the chunks before the data, and the data's header after them
module _ (size : ℕ) (tail : List ℕ) where
  abbrev data-there : List ℕ
  data-there = chunk_header 'data' size ++ tail

  walks : (cs : List OtherChunk) (pre s : List ℕ) → OthersAllowed cs → s ≡ pre ++ (other_chunks cs ++ data-there) → bytes_at s (find_from s (length pre)) ≡ first_chan cs
  walks [] pre s ok e = rw (e, at-data pre tail size)
  walks (c ∷ cs) pre s ok e =
      let one = chunk c.type c.body in
      let more = other_chunks cs ++ data-there in
      let o = ok.0 in
      let e₁ : s ≡ pre ++ (one ++ more) = e ∙ ap (λ (x : List ℕ). pre ++ x) (append_assoc one (other_chunks cs) data-there) in
      let e₂ : s ≡ (pre ++ one) ++ more = e₁ ∙ sym (append_assoc pre one more) in
      let n : length (pre ++ one) ≡ body_at (length pre) + length c.body = end-there pre c.type c.body more o.four o.not-data o.size in
      let next : bytes_at s (find_from s (body_at (length pre) + length c.body)) ≡ first_chan cs = rw n at (walks cs (pre ++ one) s ok.1 e₂) in
      let here : bytes_at s (Some (record { start = body_at (length pre); size = length c.body })) ≡ some c.body = rw e₁ (ap some (body-there pre c.type c.body more o.four o.not-data o.size)) in
      let step : find_from s (length pre) ≡ cond (exactly c.type 'chan') (Some (record { start = body_at (length pre); size = length c.body })) (find_from s (body_at (length pre) + length c.body)) =
      rw e₁ (at-chunk pre c.type c.body more o.four o.not-data o.size) in
      ap (bytes_at s) step ∙ by (exactly c.type 'chan') (Some (record { start = body_at (length pre); size = length c.body })) (find_from s (body_at (length pre) + length c.body)) here next
    where
      by : (b : Bool) (x y : Option Body) → bytes_at s x ≡ some c.body → bytes_at s y ≡ first_chan cs → bytes_at s (cond b x y) ≡ cond b (some c.body) (first_chan cs)
      by true x y h g = h
      by false x y h g = g

pub found-is-first : FoundIsFirst
found-is-first c ok =
    let s = bytes_of c in
    let desc = chunk 'desc' (desc_body c.format) in
    let rest = other_chunks c.others ++ (chunk_header 'data' (size_of c) ++ after_size c) in
    let e₁ : s ≡ file_header ++ (desc ++ rest) = parts c in
    let e₂ : s ≡ (file_header ++ desc) ++ rest = e₁ ∙ sym (append_assoc file_header desc rest) in
    let n : length (file_header ++ desc) ≡ body_at 8 + length (desc_body c.format) = end-there file_header 'desc' (desc_body c.format) rest refl (differs 'desc' 'data' refl) (desc-small c.format) in
    let first : find_chan s ≡ find_from s (body_at 8 + length (desc_body c.format)) = rw e₁ (at-chunk file_header 'desc' (desc_body c.format) rest refl (differs 'desc' 'data' refl) (desc-small c.format)) in
    ap (bytes_at s) first ∙ rw n at (walks (size_of c) (after_size c) c.others (file_header ++ desc) s ok.others e₂)

pub found-of-strict : FoundOfStrict
found-of-strict s v k bytes e =
    let a = sound s v k bytes e in
    (a.0, a.1, a.2, rw a.2 at (found-is-first a.0 a.1))
