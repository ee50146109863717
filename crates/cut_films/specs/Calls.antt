-- The calls of a session, by the definitions of the writer.
use Rattle.std.specs.Prelude.{ℕ, ◌≡◌, cond, List, eqb, take}
use Rattle.answers.specs.Numbers.{done}
use Rattle.writer.specs.Data.{data_call, samples_call}
use Rattle.writer.specs.Finish.{finish_call}
use Rattle.writer.specs.Outcome.{Outcome, unchanged, buffer_after}
use Rattle.writer.specs.declared.CAFWriter.{CAFWriter}
use Rattle.cut_films.specs.Audio.{audio_of, samples_of}
use Rattle.cut_films.specs.declared.film.LastCall.{LastCall}
use Rattle.cut_films.specs.declared.film.LastCall.TheVariants.{Begin, OneByte, Samples, FinishEmpty, FinishByte, FinishSamples, FinishRun, FinishAgain}

-- how many bytes a session is given before each of its last calls
abbrev pub bytes_before : LastCall → ℕ
bytes_before Begin = 0
bytes_before OneByte = 0
bytes_before Samples = 5
bytes_before FinishEmpty = 0
bytes_before FinishByte = 1
bytes_before FinishSamples = 5
bytes_before FinishRun = 251
bytes_before FinishAgain = 1

-- the call that gives them; no call where there are none
abbrev pub bytes_call : CAFWriter → ℕ → ℕ → LastCall → Outcome
bytes_call w room session last =
    cond (eqb (bytes_before last) 0) (unchanged done w)
    (data_call w room (take (bytes_before last) (audio_of session)))

-- the last call, where it does not begin the session: one byte, the samples, or else finish
abbrev pub last_call : CAFWriter → ℕ → ℕ → LastCall → Outcome
last_call w room session OneByte = data_call w room (take 1 (audio_of session))
last_call w room session Samples = samples_call w room (samples_of session)
last_call w room session _ = finish_call w room

-- what a function promises that does a call and gives back the record alone: the record, and the last contents of the buffer
abbrev pub Leaves : Outcome → CAFWriter → List ℕ → List ℕ → Type 0
Leaves o r buf last = (r ≡ o.after) × (last ≡ buffer_after o buf)
