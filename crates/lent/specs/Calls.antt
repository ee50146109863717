-- What a call over a lent record promises where the by-value call comes to o: its number, and the record and the buffer afterwards.
use Rattle.std.specs.Prelude.{◌≡◌, ℕ, List}
use Rattle.writer.specs.Outcome.{Outcome, answer, buffer_after}
use Rattle.writer.specs.declared.CAFWriter.{CAFWriter}

abbrev pub LentCall : Outcome → ℕ → CAFWriter → List ℕ → List ℕ → Type 0
LentCall o r after buf last = (r ≡ (answer o).number) × (after ≡ (answer o).writer) × (last ≡ buffer_after o buf)

-- of a setting, which is lent no buffer
abbrev pub LentSetting : Outcome → ℕ → CAFWriter → Type 0
LentSetting o r after = (r ≡ (answer o).number) × (after ≡ (answer o).writer)
