use Rattle.std.proofs.Common.{◌≡◌, ◌∙◌, ◌++◌, ◌+◌, ◌≤◌, ℕ, List, length, take, drop, refl, ap, arith}
use Rattle.byte_order.specs.Splice.{splice}
use Rattle.byte_order.proofs.Laws.{more}
use Rattle.format.specs.declared.Endianness.{Endianness}
use Rattle.format.specs.declared.Endianness.TheVariants.{BigEndian, LittleEndian}
use Rattle.pcm.specs.Sample.{bytes24}
use Rattle.pcm.proofs.twelve.put_twelve.Goals as goal

-- a word of eight and then one of four are the bytes of four samples
twelve : (e : Endianness) (a b c d : ℕ) (buf : List ℕ) (at : ℕ) {eight four one all : List ℕ} → at + 12 ≤ length buf
    → eight ≡ bytes24 e a ++ (bytes24 e b ++ take 2 (bytes24 e c)) → four ≡ drop 2 (bytes24 e c) ++ bytes24 e d
    → one ≡ splice buf at eight → all ≡ splice one (at + 8) four
    → all ≡ splice buf at (bytes24 e a ++ (bytes24 e b ++ (bytes24 e c ++ bytes24 e d)))
twelve BigEndian a b c d buf at {eight} {four} {one} h p q r s = more buf at 8 _ _ (r ∙ ap (splice buf at) p) (s ∙ ap (splice one (at + 8)) q) refl (omega arith)
twelve LittleEndian a b c d buf at {eight} {four} {one} h p q r s = more buf at 8 _ _ (r ∙ ap (splice buf at) p) (s ∙ ap (splice one (at + 8)) q) refl (omega arith)

pub returns : goal.returns
returns c =
    let a = c.args in
    twelve a.endianness a.a a.b a.c a.d a.buf.now a.at c.requires.0 c.eight_of.ensures c.four_of.ensures c.put_bytes.ensures c.put_bytes-2.ensures
