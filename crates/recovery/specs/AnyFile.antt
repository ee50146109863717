-- 02, T-13: what is appended to a file goes by its own `desc`. Samples speaks of files that a fresh writer began, and none of these is
-- little-endian any longer (kept/specs/Big); this is of every file that a resume accepts, whoever wrote it.
use Rattle.std.specs.Prelude.{ℕ, ◌*◌, ◌≤◌, ◌≡◌, Bool, true, false, List, [], ◌∷◌, ◌++◌, length, take, drop, eqb, ℤ, pos, negsuc, Some}
use Rattle.answers.specs.Numbers.{done}
use Rattle.byte_order.specs.Same.{exactly}
use Rattle.format.specs.Flags.{endianness_of}
use Rattle.format.specs.declared.AudioFormat.{AudioFormat}
use Rattle.format.specs.declared.PCMDataType.TheVariants.{SignedInteger}
use Rattle.format.specs.declared.Endianness.TheVariants.{BigEndian}
use Rattle.pcm.specs.Packing.{sample_size, packed}
use Rattle.pcm.specs.Unpacking.{unpacked}
use Rattle.pcm.specs.RoundTrip.{kept24}
use Rattle.reading.specs.Plain.{plain}
use Rattle.reading.specs.Strict.{strict}
use Rattle.reading.specs.declared.CAFFileInfo.{CAFFileInfo}
use Rattle.reading.specs.declared.StrictInfo.{StrictInfo}
use Rattle.reading.specs.Shapes.{Found, Accepted}
use Rattle.writer.specs.Record.{fresh}
use Rattle.writer.specs.Resume.{resume_call}
use Rattle.recovery.specs.Calls.{Call, set, format, configure, header, bytes, samples, finish}
use Rattle.recovery.specs.Session.{Session, is_accepted, do_call, run}
use Rattle.recovery.specs.Cut.{resting, file_of}
use Rattle.recovery.specs.Sessions.{resumed_from}
use Rattle.recovery.specs.Figures.{rate48000, room, is_closed_with}

-- a resume of the file that is the first len bytes of this buffer. Nothing is known of a header call
abbrev pub resumed_in : List ℕ → ℕ → Session
resumed_in buffer len = resumed_from (record { buffer = buffer; len = len; at_header = fresh; arrived = []; in_reopening = false })

-- as many bytes as samples xs have, in the file of `now`, from where the file of `before` ended
abbrev pub samples_in : Session → List ℤ → Session → List ℕ
samples_in before xs now = take (sample_size * length xs) (drop (length (file_of (resting before))) (file_of (resting now)))

-- a file that was resumed, the session `before` it takes samples, and the session `now`, some calls later
pub record InItsOrder (file : List ℕ) (before : Session) (xs : List ℤ) (now : Session) : Type 0 where
  -- what the plain reading gives of the file as it was found. Its format is that of the last `desc` before the data
  pub info : CAFFileInfo
  pub chunks : ℕ
  pub format : AudioFormat
  pub found : plain file ≡ Found info chunks
  pub described : info.format ≡ Some format
  -- the call puts the samples at the end of the file, packed in the byte order that the flags of that format give
  pub appended : file_of (resting (do_call before (samples xs))) ≡ file_of (resting before) ++ packed (endianness_of format) xs
  -- all audio that the file had stays, and what arrived follows it
  pub audio : drop info.data_start (file_of (resting now)) ≡ drop info.data_start file ++ now.arrived
  -- the samples stay where they are; the plain reading of the file gives what it gave; and unpacked in that order they are what 24 bits keep of them
  pub there : samples_in before xs now ≡ packed (endianness_of format) xs
  pub still : (k : ℕ) × (plain (file_of (resting now)) ≡ Found info k)
  pub back : unpacked (endianness_of format) (samples_in before xs now) ≡ kept24 xs
  -- where the strict reading accepts the file, it gives that format too, and data that start no later than the samples
  pub by-strict : (v : StrictInfo) (k : ℕ) → strict (file_of (resting now)) ≡ Accepted v k → (v.format ≡ format) × (v.data_start ≤ length (file_of (resting before)))

-- for every buffer, every file in it that a resume accepts, and any calls before and after, accepted or refused, settings among them
abbrev pub AppendsInOrder : Type 0
AppendsInOrder =
    (buffer : List ℕ) (len : ℕ) (before : List Call) (xs : List ℤ) (after : List Call)
    → (resume_call buffer len).number ≡ done → is_accepted (run (resumed_in buffer len) before) (samples xs) ≡ true
    → InItsOrder (take len buffer) (run (resumed_in buffer len) before) xs (run (do_call (run (resumed_in buffer len) before) (samples xs)) after)

-- That there are such files, and which `desc` counts, as a table of tests; the theorem `ordered` of proofs/ says that all hold. The files are
-- written out byte by byte: a `desc` of 48000 Hz, `lpcm`, these flags, 6 bytes and one frame a packet, 2 channels of 24 bits
abbrev pub desc_with : ℕ → List ℕ
desc_with flags =
    0x64 ∷ 0x65 ∷ 0x73 ∷ 0x63 ∷ 0 ∷ 0 ∷ 0 ∷ 0 ∷ 0 ∷ 0 ∷ 0 ∷ 32 ∷ 0x40 ∷ 0xE7 ∷ 0x70 ∷ 0 ∷ 0 ∷ 0 ∷ 0 ∷ 0 ∷ 0x6C ∷ 0x70 ∷ 0x63 ∷ 0x6D ∷
    0 ∷ 0 ∷ 0 ∷ flags ∷ 0 ∷ 0 ∷ 0 ∷ 6 ∷ 0 ∷ 0 ∷ 0 ∷ 1 ∷ 0 ∷ 0 ∷ 0 ∷ 2 ∷ 0 ∷ 0 ∷ 0 ∷ 24 ∷ []

-- with these chunks before the data, and none of those: open, and the edit count 0
abbrev pub file_with : List ℕ → List ℕ
file_with chunks =
    (0x63 ∷ 0x61 ∷ 0x66 ∷ 0x66 ∷ 0 ∷ 1 ∷ 0 ∷ 0 ∷ []) ++ chunks
    ++ (0x64 ∷ 0x61 ∷ 0x74 ∷ 0x61 ∷ 255 ∷ 255 ∷ 255 ∷ 255 ∷ 255 ∷ 255 ∷ 255 ∷ 255 ∷ 0 ∷ 0 ∷ 0 ∷ 0 ∷ [])

-- resumed in a buffer with room for nine bytes more, and then these calls: the file, and what stands in it after those chunks
abbrev pub file_after : List ℕ → List Call → List ℕ
file_after chunks calls = file_of (resting (run (resumed_in (file_with chunks ++ room 9) (length (file_with chunks))) calls))

abbrev pub audio_after : List ℕ → List Call → List ℕ
audio_after chunks calls = drop (length (file_with chunks)) (file_after chunks calls)

abbrev pub one : Call
one = samples (pos 1 ∷ [])

unfoldable pub order_rows : List Bool
order_rows =
    eqb (resume_call (file_with (desc_with 2)) 68).number done ∷
    exactly (audio_after (desc_with 2) (one ∷ [])) (1 ∷ 0 ∷ 0 ∷ []) ∷
    exactly (audio_after (desc_with 3) (one ∷ [])) (1 ∷ 0 ∷ 0 ∷ []) ∷
    exactly (audio_after (desc_with 0) (one ∷ [])) (0 ∷ 0 ∷ 1 ∷ []) ∷
    -- of two, the last one counts
    exactly (audio_after (desc_with 0 ++ desc_with 2) (one ∷ [])) (1 ∷ 0 ∷ 0 ∷ []) ∷
    exactly (audio_after (desc_with 2 ++ desc_with 0) (one ∷ [])) (0 ∷ 0 ∷ 1 ∷ []) ∷
    -- with calls between: settings and a header, all refused, bytes, and a finish
    exactly (audio_after (desc_with 2) (set (configure rate48000 2 24 []) ∷ one ∷ set (format rate48000 2 24 SignedInteger BigEndian) ∷ header ∷ bytes (7 ∷ 8 ∷ 9 ∷ []) ∷ samples (negsuc 1 ∷ []) ∷ finish ∷ one ∷ []))
    (1 ∷ 0 ∷ 0 ∷ 7 ∷ 8 ∷ 9 ∷ 0xFE ∷ 0xFF ∷ 0xFF ∷ []) ∷
    is_closed_with (strict (file_after (desc_with 2) (one ∷ one ∷ finish ∷ []))) 6 ∷
    []
