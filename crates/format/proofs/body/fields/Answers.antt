use mathlib.Core.Path.{refl}
use mathlib.Core.List.{List, [], ◌++◌}
use Prim.Native.Nat.{ℕ}
use lib.ListN.{replicate}
use borrow.Author.Rules.{rules}
use Rattle.byte_order.specs.Big.{big_bytes}
use Rattle.byte_order.specs.Rate.{bits_of_rate}
use Rattle.byte_order.proofs.Bytes.{put-next}
use Rattle.format.specs.Desc.{desc_body}
use Rattle.format.proofs.body.fields.Goals as goal

abbrev zeros : ℕ → List ℕ
zeros n = replicate n 0

-- each put goes right after the last one, into what is left of the zeros
pub returns : goal.returns
unfolding desc_body
returns c =
    let a = c.args in
    let f = a.format in
    let b1 : List ℕ = big_bytes 8 (bits_of_rate f.sample_rate) in
    let b2 : List ℕ = b1 ++ big_bytes 4 f.format_id in
    let b3 : List ℕ = b2 ++ big_bytes 4 f.format_flags in
    let b4 : List ℕ = b3 ++ big_bytes 4 f.bytes_per_packet in
    let b5 : List ℕ = b4 ++ big_bytes 4 f.frames_per_packet in
    let b6 : List ℕ = b5 ++ big_bytes 4 f.channels_per_frame in
    let s1 = rw c.requires at (put-next 8 a.rate_bits 0 [] (zeros 8) (zeros 24) refl refl refl c.to_be_bytes.ensures c.put.ensures.1) in
    let s2 = put-next 4 f.format_id 8 b1 (zeros 4) (zeros 20) refl refl s1 c.to_be_bytes-2.ensures c.put-2.ensures.1 in
    let s3 = put-next 4 f.format_flags 12 b2 (zeros 4) (zeros 16) refl refl s2 c.to_be_bytes-3.ensures c.put-3.ensures.1 in
    let s4 = put-next 4 f.bytes_per_packet 16 b3 (zeros 4) (zeros 12) refl refl s3 c.to_be_bytes-4.ensures c.put-4.ensures.1 in
    let s5 = put-next 4 f.frames_per_packet 20 b4 (zeros 4) (zeros 8) refl refl s4 c.to_be_bytes-5.ensures c.put-5.ensures.1 in
    let s6 = put-next 4 f.channels_per_frame 24 b5 (zeros 4) (zeros 4) refl refl s5 c.to_be_bytes-6.ensures c.put-6.ensures.1 in
    put-next 4 f.bits_per_channel 28 b6 (zeros 4) [] refl refl s6 c.to_be_bytes-7.ensures c.put-7.ensures.1
