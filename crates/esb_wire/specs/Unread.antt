-- What one read does to the unread bytes.
use Rattle.std.specs.Prelude.{◌≡◌, ℕ, ◌+◌, ◌≤◌, List, length, Result, Ok, Err}
use Rattle.esb_base.specs.declared.memory.Memory.{Memory}
use Rattle.esb_base.specs.declared.source.ReadStep.{ReadStep}
use Rattle.esb_base.specs.declared.source.ReadStep.TheVariants.{Bytes, End, Failed}
use Rattle.esb_base.specs.Source.{gave_after}

-- A read that gave bytes put so many behind them.
abbrev pub GrowsBy : List ℕ → List ℕ → ReadStep → Type 0
GrowsBy old new (Bytes n) = (length new ≡ length old + n) × (1 ≤ n) × (n ≤ 65536)
GrowsBy old new End = new ≡ old
GrowsBy old new Failed = new ≡ old

abbrev pub Grows : List ℕ → List ℕ → Result ReadStep Memory → Type 0
Grows old new (Ok step) = GrowsBy old new step
Grows old new (Err refused) = new ≡ old

abbrev pub gave_by : ℕ → Result ReadStep Memory → ℕ
gave_by gave (Ok step) = gave_after gave step
gave_by gave (Err refused) = gave
