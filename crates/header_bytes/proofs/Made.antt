-- The file being made is accepted by the strict reading, and how long its header is.
use mathlib.Core.Path.{◌≡◌, refl, sym, ◌∙◌, ap}
use mathlib.Core.Bool.{Bool, true, false, true≢false}
use mathlib.Core.List.{List, [], ◌++◌, append-nil}
use Prim.Native.Nat.{ℕ, ◌+◌, ◌≤◌, ◌<◌}
use native.Mathlib.Omega.{arith}
use lib.Dec.{lit<}
use lib.ListN.{length, length-append}
use Rattle.byte_order.specs.Same.{exactly}
use Rattle.format.specs.Desc.{desc_body, Typed, RateIsNumber}
use Rattle.format.specs.declared.AudioFormat.{AudioFormat}
use Rattle.layout.specs.Setting.{label_places}
use Rattle.layout.specs.Tags as tag
use Rattle.layout.proofs.Descriptions.{chan-length}
use Rattle.layout.specs.declared.ChannelLayout.{ChannelLayout}
use Rattle.layout.specs.declared.ChannelLayout.TheVariants.{NoLayout, Tagged, Described}
use Rattle.reading.specs.Types.{'chan', 'desc', 'data', edit_size, negative}
use Rattle.reading.specs.Grammar.{OtherAllowed, OthersAllowed, data_chunk, Allowed, front, bytes_of}
use Rattle.reading.proofs.Complete.{strict-complete}
use Rattle.header_bytes.specs.Made.{chan_chunk, layout_chunks, made, header_bytes, start_of}
use Rattle.header_bytes.specs.Claims.{MadeAccepted, HeaderLength}

-- lists that a test tells apart are not the same
differ : (xs ys : List ℕ) → exactly xs ys ≡ false → exactly xs xs ≡ true → xs ≡ ys → ⊥
differ xs ys n y e = true≢false (sym y ∙ ap (exactly xs) e ∙ n)

chan-allowed : (t : ℕ) (ls : List ℕ) → length ls ≤ label_places → OtherAllowed (chan_chunk t ls)
chan-allowed t ls h =
    let e = chan-length t ls in
    record { four = refl; not-desc = differ 'chan' 'desc' refl refl; not-data = differ 'chan' 'data' refl refl; size = omega arith }

layout-allowed : (layout : ChannelLayout) (ls : List ℕ) → (layout ≡ Described → length ls ≤ label_places) → OthersAllowed (layout_chunks layout ls)
layout-allowed NoLayout ls h = tt
layout-allowed (Tagged t) ls h = (chan-allowed t [] (omega arith), tt)
layout-allowed Described ls h = (chan-allowed tag.UseChannelDescriptions ls (h refl), tt)

pub made-allowed : (is_open : Bool) (f : AudioFormat) (layout : ChannelLayout) (ls audio : List ℕ)
    → Typed f → RateIsNumber f → (layout ≡ Described → length ls ≤ label_places) → edit_size + length audio < negative → Allowed (made is_open f layout ls audio)
made-allowed is_open f layout ls audio t r l z =
    record { typed = t; rate = r; others = layout-allowed layout ls l; edit = lit< tt; size = λ _. z; after = tt; last = λ _. refl }

pub made-accepted : MadeAccepted
made-accepted is_open f layout ls audio t r l z = strict-complete (made is_open f layout ls audio) (made-allowed is_open f layout ls audio t r l z)

-- nothing stands after the data
pub made_bytes : (is_open : Bool) (f : AudioFormat) (layout : ChannelLayout) (ls audio : List ℕ)
    → bytes_of (made is_open f layout ls audio) ≡ front f (layout_chunks layout ls) ++ data_chunk is_open 0 audio
unfolding bytes_of
made_bytes is_open f layout ls audio = ap (λ (x : List ℕ). front f (layout_chunks layout ls) ++ x) (append-nil (data_chunk is_open 0 audio))

pub header-length : HeaderLength
unfolding header_bytes bytes_of front desc_body
header-length f NoLayout ls = refl
header-length f (Tagged t) ls = simp length-append (omega (arith, chan-length t []))
header-length f Described ls = simp length-append (omega (arith, chan-length tag.UseChannelDescriptions ls))

-- no header is shorter than one without a layout
pub start-least : (layout : ChannelLayout) (ls : List ℕ) → 68 ≤ start_of layout ls
start-least NoLayout ls = omega arith
start-least (Tagged t) ls = omega arith
start-least Described ls = omega arith
