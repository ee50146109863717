-- Worked examples: small files in blocks, with the numbers that an independent model gives for them, and records made by hand at the
-- limit and beyond soundness.
use Rattle.std.proofs.Common.{None}
use mathlib.Core.Path.{◌≡◌, refl}
use mathlib.Core.List.{List, [], ◌∷◌, ◌++◌}
use Prim.Native.Nat.{ℕ, ◌+◌, ◌-◌}
use lib.ListN.{take, drop, replicate}
use lib.Ieee.{of_bits, is_nan}
use Rattle.answers.specs.Numbers.{file_max}
use Rattle.byte_order.specs.Big.{big_bytes}
use Rattle.format.specs.Desc.{format_at}
use Rattle.format.specs.Setting.{'lpcm'}
use Rattle.format.specs.declared.AudioFormat.{AudioFormat}
use Rattle.reading.specs.Types.{'desc', 'data', open_size}
use Rattle.reading.specs.Grammar.{file_header, chunk_header, chunk}
use Rattle.reading.specs.Answers.{strict_number, strict_count}
use Rattle.feeder.specs.Record.{fresh, phase_sound, sound}
use Rattle.feeder.specs.End.{end}
use Rattle.feeder.specs.declared.Phase.{Phase}
use Rattle.feeder.specs.declared.Phase.TheVariants.{FileHeader, Skipping, OpenData}
use Rattle.feeder.specs.declared.Feeder.{Feeder}
use Rattle.judging.specs.Judge.{judged_header, judged}
use Rattle.feeding.specs.Feed.{collected, took, step1, feed, feed_all}

-- 44100 frames a second, 16 bits, two channels
abbrev body : List ℕ
body = big_bytes 8 4676293871431319552 ++ 'lpcm' ++ big_bytes 4 0 ++ big_bytes 4 4 ++ big_bytes 4 1 ++ big_bytes 4 2 ++ big_bytes 4 16

abbrev desc : List ℕ
desc = chunk 'desc' body

abbrev free : List ℕ
free = chunk (102 ∷ 114 ∷ 101 ∷ 101 ∷ []) (97 ∷ 98 ∷ 99 ∷ [])

abbrev audio : List ℕ
audio = 1 ∷ 2 ∷ 3 ∷ 4 ∷ 5 ∷ 6 ∷ 7 ∷ 8 ∷ 9 ∷ []

-- four blocks, the second without bytes
abbrev cut : ℕ → ℕ → List ℕ → List (List ℕ)
cut a b s = take a s ∷ [] ∷ take b (drop a s) ∷ drop (a + b) s ∷ []

-- the number and the count at the end
abbrev Ends : List (List ℕ) → ℕ → ℕ → Type 0
Ends blocks number k = (strict_number (end (feed_all fresh blocks)) ≡ number) × (strict_count (end (feed_all fresh blocks)) ≡ k)

closed : Ends (cut 5 25 (file_header ++ desc ++ free ++ chunk_header 'data' 13 ++ big_bytes 4 0 ++ audio)) 0 3
unfolding phase_sound sound judged_header judged collected took step1 feed feed_all end format_at of_bits is_nan
closed = (refl, refl)

left_open : Ends (cut 20 32 (file_header ++ desc ++ chunk_header 'data' open_size ++ big_bytes 4 0 ++ audio)) 0 2
unfolding phase_sound sound judged_header judged collected took step1 feed feed_all end format_at of_bits is_nan
left_open = (refl, refl)

-- after closed data: one byte, another chunk, a second `data` whose size is bad as well, a `desc`
stray-byte : Ends (cut 1 63 (file_header ++ desc ++ free ++ chunk_header 'data' 12 ++ big_bytes 4 0 ++ audio)) 1 3
unfolding phase_sound sound judged_header judged collected took step1 feed feed_all end format_at of_bits is_nan
stray-byte = (refl, refl)

with_tail : Ends (cut 60 15 (file_header ++ desc ++ chunk_header 'data' 13 ++ big_bytes 4 0 ++ audio ++ free)) 0 3
unfolding phase_sound sound judged_header judged collected took step1 feed feed_all end format_at of_bits is_nan
with_tail = (refl, refl)

twice : Ends (cut 60 15 (file_header ++ desc ++ chunk_header 'data' 13 ++ big_bytes 4 0 ++ audio ++ free ++ chunk_header 'data' 0)) 23 4
unfolding phase_sound sound judged_header judged collected took step1 feed feed_all end format_at of_bits is_nan
twice = (refl, refl)

desc-after : Ends (cut 60 15 (file_header ++ desc ++ chunk_header 'data' 13 ++ big_bytes 4 0 ++ audio ++ desc)) 7 3
unfolding phase_sound sound judged_header judged collected took step1 feed feed_all end format_at of_bits is_nan
desc-after = (refl, refl)

past_end : Ends (cut 60 15 (file_header ++ desc ++ chunk_header 'data' 14 ++ big_bytes 4 0 ++ audio)) 8 2
unfolding phase_sound sound judged_header judged collected took step1 feed feed_all end format_at of_bits is_nan
past_end = (refl, refl)

second-desc : Ends (cut 55 5 (file_header ++ desc ++ desc)) 7 2
unfolding phase_sound sound judged_header judged collected took step1 feed feed_all end format_at of_bits is_nan
second-desc = (refl, refl)

cut-body : Ends (cut 8 12 (file_header ++ desc ++ take 14 free)) 1 2
unfolding phase_sound sound judged_header judged collected took step1 feed feed_all end format_at of_bits is_nan
cut-body = (refl, refl)

no_bytes : Ends ([] ∷ [] ∷ []) 1 0
unfolding phase_sound sound feed feed_all end
no_bytes = (refl, refl)

-- records by hand
abbrev by_hand : Phase → ℕ → ℕ → ℕ → Feeder
by_hand phase count total chunks = record { phase = phase; held = replicate 32 0; count = count; total = total; chunks = chunks }

abbrev format : AudioFormat
format = format_at body 0

-- the last byte that a file may have is read, the next one is too much; so also within a body that can no longer end in time
at-limit : (feed (by_hand (OpenData format 68) 0 (file_max - 1) 2) (0 ∷ [])).number ≡ 0
unfolding phase_sound sound judged collected took step1 feed format_at of_bits is_nan
at-limit = refl

past-limit : (feed (by_hand (OpenData format 68) 0 (file_max - 1) 2) (0 ∷ 0 ∷ [])).number ≡ 21
unfolding phase_sound sound judged collected took step1 feed format_at of_bits is_nan
past-limit = refl

skip-past-limit : (feed (by_hand (Skipping format None file_max) 0 (file_max - 1) 2) (0 ∷ 0 ∷ [])).number ≡ 21
unfolding phase_sound sound judged collected took step1 feed format_at of_bits is_nan
skip-past-limit = refl

-- and the count stays that of the headers met
past-limit-count : strict_count (end (feed (by_hand (OpenData format 68) 0 (file_max - 1) 2) (0 ∷ 0 ∷ [])).feeder) ≡ 2
unfolding phase_sound sound judged collected took step1 feed end format_at of_bits is_nan
past-limit-count = refl

-- more bytes held than the piece has
unsound : feed (by_hand FileHeader 9 9 0) (0 ∷ []) ≡ record { number = 19; feeder = by_hand FileHeader 9 9 0 }
unfolding phase_sound sound feed
unsound = refl
