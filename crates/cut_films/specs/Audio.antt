-- What a session of a film is given: bytes, and samples made of them.
use Rattle.std.specs.Prelude.{ℕ, zero, suc, ◌+◌, ◌*◌, ◌%◌, ◌^◌, List, [], ◌∷◌, ◌++◌, ℤ, pos}

-- every session has a run of bytes of its own. Its byte at place i
abbrev pub run_byte : ℕ → ℕ → ℕ
run_byte session i = (i * 29 + session * 101 + 3) % 256

-- the first k bytes of a session's run
unfoldable pub run : ℕ → ℕ → List ℕ
run session zero = []
run session (suc k) = run session k ++ (run_byte session k ∷ [])

-- the data of a session
abbrev pub audio_of : ℕ → List ℕ
audio_of session = run session 251

-- three bytes of the run as a number, the most significant first
abbrev pub run_sample : ℕ → ℕ → ℤ
run_sample session i = pos (run_byte session i * 2 ^ 16 + run_byte session (i + 1) * 2 ^ 8 + run_byte session (i + 2))

-- the samples of a session: bytes 5 to 10 of its run
abbrev pub samples_of : ℕ → List ℤ
samples_of session = run_sample session 5 ∷ run_sample session 8 ∷ []
