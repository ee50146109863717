-- 02, T-03: the reader's answers as rows, each beside the facts under which it is given, by number. No row looks at another one; the claim
-- ChanExactly says that the reader answers by these rows alone.
use Rattle.std.specs.Prelude.{ℕ, ◌<◌, ◌≤◌, ◌≡◌, List}
use Rattle.answers.specs.Numbers.{cut_short, bad_layout, no_room_left}
use Rattle.byte_order.specs.Big.{big_at}
use Rattle.layout.specs.Chan.{chan_size}
use Rattle.layout.specs.Tags as tag
use Rattle.chan_reading.specs.Read.{numbers_for, head_of}
use Rattle.chan_reading.specs.Shapes.{ChanAnswer, Given, Refused}

-- the tag and the count of descriptions, in the first 12 bytes
abbrev pub tag_in : List ℕ → ℕ
tag_in head = big_at 4 head 0

abbrev pub count_in : List ℕ → ℕ
count_in head = big_at 4 head 8

-- the tag goes with the channels: it leaves them to the descriptions, or to the bitmap, or its low half is their count
pub data Goes (t n channels : ℕ) : Type 0 where
  described : t ≡ tag.UseChannelDescriptions → n ≡ channels → Goes t n channels
  by-bitmap : t ≡ tag.UseChannelBitmap → Goes t n channels
  counted : ¬ (t ≡ tag.UseChannelDescriptions) → ¬ (t ≡ tag.UseChannelBitmap) → tag.channels t ≡ channels → Goes t n channels

-- the answers for a body of so many bytes that begins with `head`, where so many numbers have room
pub data ChanGives (head : List ℕ) (size channels room : ℕ) : ChanAnswer → Type 0 where
  -- 0, Done: tag, bitmap and count
  given : size ≡ chan_size (count_in head) → Goes (tag_in head) (count_in head) channels → numbers_for (count_in head) ≤ room → ChanGives head size channels room (Given (head_of head))
  -- 1, CutShort: not even a tag, a bitmap and a count
  short : size < chan_size 0 → ChanGives head size channels room (Refused cut_short)
  -- 14, NoRoom, for a body that nothing else refuses
  no_room : size ≡ chan_size (count_in head) → Goes (tag_in head) (count_in head) channels → room < numbers_for (count_in head) → ChanGives head size channels room (Refused no_room_left)
  -- 22, BadLayout: a size that is not the count's; else descriptions that are not as many as the channels, or another low half
  other-size : chan_size 0 ≤ size → ¬ (size ≡ chan_size (count_in head)) → ChanGives head size channels room (Refused bad_layout)
  other-count : size ≡ chan_size (count_in head) → tag_in head ≡ tag.UseChannelDescriptions → ¬ (count_in head ≡ channels) → ChanGives head size channels room (Refused bad_layout)
  other_half : size ≡ chan_size (count_in head) → ¬ (tag_in head ≡ tag.UseChannelDescriptions) → ¬ (tag_in head ≡ tag.UseChannelBitmap) → ¬ (tag.channels (tag_in head) ≡ channels)
      → ChanGives head size channels room (Refused bad_layout)
