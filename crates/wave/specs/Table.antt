-- 02, T-11: when the header's function gives which number, as rows of facts. The claim HeadExactly says that it answers by these rows alone.
use Rattle.std.specs.Prelude.{ℕ, ◌+◌, ◌*◌, ◌%◌, ◌^◌, ◌<◌, ◌≤◌, ◌≡◌, true, List, [], ◌∷◌, length}
use Rattle.answers.specs.Numbers.{done, wrong_width, not_for_wave}
use Rattle.format.specs.Wide.{is_wide, whole_frames}
use Rattle.format.specs.declared.AudioFormat.{AudioFormat}
use Rattle.wave.specs.Rate.{whole_rate}

-- 24-bit integers, and the payload is whole frames of them
pub record Whole (f : AudioFormat) (payload : ℕ) : Type 0 where
  pub wide : is_wide f ≡ true
  pub frames : whole_frames f.channels_per_frame payload ≡ true

-- each label is above the one before it, the first above `low`, and none is above 18
abbrev pub Ascends : ℕ → List ℕ → Type 0
Ascends low [] = Unit {0}
Ascends low (l ∷ ls) = (low < l) × (l ≤ 18) × Ascends l ls

-- a WAVE file can say it: a label from 1 to 18 for each channel, ascending; a whole rate (0 stands for every other one), and the bytes of a
-- second below 2^32; the size of an RF64 file below 2^64
pub record Sayable (f : AudioFormat) (ls : List ℕ) (payload : ℕ) : Type 0 where
  pub many : length ls ≡ f.channels_per_frame
  pub ascend : Ascends 0 ls
  pub rate : 0 < whole_rate f.sample_rate
  pub second : whole_rate f.sample_rate * (3 * f.channels_per_frame) < 2 ^ 32
  pub size : 96 + payload + payload % 2 < 2 ^ 64

pub data HeadGives (f : AudioFormat) (ls : List ℕ) (payload : ℕ) : ℕ → Type 0 where
  other_width : ¬ Whole f payload → HeadGives f ls payload wrong_width
  not-sayable : Whole f payload → ¬ Sayable f ls payload → HeadGives f ls payload not_for_wave
  made : Whole f payload → Sayable f ls payload → HeadGives f ls payload done
