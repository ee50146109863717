-- A file's parts, up to the header of its data chunk: what follows that makes no difference to the search for a `chan`.
use mathlib.Core.Path.{◌≡◌, sym, ◌∙◌, ap}
use mathlib.Core.Bool.{true≢false, false}
use mathlib.Core.List.{List, ◌++◌, append_assoc}
use Prim.Native.Nat.{ℕ, ◌<◌}
use lib.ListN.{length}
use lib.Dec.{lit<}
use Rattle.byte_order.specs.Big.{big_bytes}
use Rattle.byte_order.specs.Same.{exactly}
use Rattle.byte_order.proofs.Same.{exactly-refl}
use Rattle.format.specs.Desc.{desc_body}
use Rattle.format.specs.declared.AudioFormat.{AudioFormat}
use Rattle.format.proofs.RoundTrip.{desc-length}
use Rattle.reading.specs.Types.{'desc', 'data', edit_size, negative}
use Rattle.reading.specs.Grammar.{file_header, chunk_header, chunk, OtherChunk, other_chunks, data_size, CafFile, front, bytes_of}

-- a type that is not this one
pub differs : (type other : List ℕ) → exactly type other ≡ false → type ≡ other → ⊥
differs type other e t = true≢false (sym (exactly-refl other) ∙ ap (λ (x : List ℕ). exactly x other) (sym t) ∙ e)

pub desc-small : (f : AudioFormat) → length (desc_body f) < negative
desc-small f = rw (desc-length f) (lit< tt)

-- the front, its parts one after the other, and anything after it
front-parts : (f : AudioFormat) (others : List OtherChunk) (rest : List ℕ) → front f others ++ rest ≡ file_header ++ (chunk 'desc' (desc_body f) ++ (other_chunks others ++ rest))
unfolding front
front-parts f others rest =
    append_assoc (file_header ++ chunk 'desc' (desc_body f)) (other_chunks others) rest
    ∙ append_assoc file_header (chunk 'desc' (desc_body f)) (other_chunks others ++ rest)

-- the data chunk's size field, and what follows it
abbrev pub size_of : CafFile → ℕ
size_of c = data_size c.is_open c.audio

abbrev pub after_size : CafFile → List ℕ
after_size c = big_bytes edit_size c.edit_count ++ c.audio ++ other_chunks c.tail

pub parts : (c : CafFile) → bytes_of c ≡ file_header ++ (chunk 'desc' (desc_body c.format) ++ (other_chunks c.others ++ (chunk_header 'data' (size_of c) ++ after_size c)))
unfolding bytes_of
parts c =
    let d = chunk_header 'data' (size_of c) in
    let n = big_bytes edit_size c.edit_count in
    let tail = other_chunks c.tail in
    ap (λ (x : List ℕ). front c.format c.others ++ x) (ap (λ (x : List ℕ). x ++ tail) (append_assoc d n c.audio) ∙ append_assoc d (n ++ c.audio) tail)
    ∙ front-parts c.format c.others (d ++ after_size c)
