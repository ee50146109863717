-- What the record knows of a whole file s when its first i bytes were fed: which part of the strict reading its phase leaves.
use Rattle.std.proofs.Common.{Option, None, Some}
use mathlib.Core.Path.{◌≡◌}
use mathlib.Core.Bool.{true, false, cond}
use mathlib.Core.List.{List}
use Prim.Native.Nat.{ℕ, ◌+◌, ◌-◌, ◌<◌, ◌≤◌}
use lib.ListN.{length}
use lib.Dec.{ltb}
use Rattle.answers.specs.Numbers.{cut_short, data_past_end}
use Rattle.byte_order.specs.Big.{big_at}
use Rattle.format.specs.declared.AudioFormat.{AudioFormat}
use Rattle.reading.specs.Types.{type_size, edit_size, open_size, size_to_data}
use Rattle.reading.specs.Step.{left, size_at, body_at}
use Rattle.reading.specs.Rules.{Rules, Strict, Tail, is_open_size}
use Rattle.reading.specs.Walk.{next, walk}
use Rattle.reading.specs.Strict.{strict_answer, first_body, first_chunk, strict}
use Rattle.reading.specs.Shapes.{Step}
use Rattle.reading.specs.Shapes.{Skip, Closed, Data, Refused as Refuse}
use Rattle.reading.specs.Shapes.{StrictAnswer, Accepted, Rejected}
use Rattle.feeder.specs.Record.{is_by_bytes}
use Rattle.feeder.specs.End.{info_at}
use Rattle.feeder.specs.declared.Phase.{Phase}
use Rattle.feeder.specs.declared.Phase.TheVariants.{FileHeader, FirstHeader, Desc, Header, Skipping, Edit, OpenData, ClosedData, Refused}
use Rattle.feeder.specs.declared.DataChunk.{DataChunk}
use Rattle.feeder.specs.declared.Feeder.{Feeder}
use Rattle.feeding.specs.Feed.{is_refused}
use Rattle.feeding.proofs.Piece.{Holds}

-- the step over a body, and the step at a data chunk after its size and after its edit count
abbrev pub over_body : List ℕ → ℕ → Step
over_body s p = cond (ltb (left s (body_at p)) (size_at s p)) (Refuse cut_short 1) (Skip (body_at p + size_at s p))

abbrev pub closing : List ℕ → ℕ → Step
closing s p =
    cond (is_open_size (size_at s p)) (Data (p + type_size) (body_at p + edit_size))
    (cond (ltb (left s (body_at p)) (size_at s p)) (Refuse data_past_end 1)
    (Closed (p + type_size) (body_at p + edit_size) (body_at p + size_at s p)))

abbrev pub from_edit : List ℕ → ℕ → Step
from_edit s p = cond (ltb (left s (body_at p)) edit_size) (Refuse cut_short 1) (closing s p)

-- the rules by which the strict reading goes on
abbrev pub rules_for : Option DataChunk → Rules
rules_for None = Strict
rules_for (Some c) = Tail (c.start - size_to_data) c.start

-- the answer of a walk that has come to p with k headers met, and of one that goes on by a step
abbrev pub walked : List ℕ → AudioFormat → Rules → ℕ → ℕ → StrictAnswer
walked s f rules p k = strict_answer s f (walk s rules p (Some f) k)

abbrev pub stepped : List ℕ → AudioFormat → Rules → ℕ → Step → StrictAnswer
stepped s f rules k st = strict_answer s f (next (walk s) rules (Some f) k st)

-- a data chunk that was passed is the file's, and closed
abbrev pub Known : List ℕ → Option DataChunk → Type 0
Known s None = Unit {0}
Known s (Some c) = (c.size ≡ big_at 8 s (c.start - size_to_data)) × (is_open_size c.size ≡ false)

-- the phase tells which part of the strict reading is left. h holds n bytes, i are read, k headers met
pub record AtFile (s : List ℕ) (i : ℕ) (h : List ℕ) (n k : ℕ) : Type 0 where
  pub holds : Holds h n s 0
  pub place : i ≡ n
  pub few : n < 8
  pub count : k ≡ 0

pub record AtFirst (s : List ℕ) (i : ℕ) (h : List ℕ) (n k : ℕ) : Type 0 where
  pub holds : Holds h n s 8
  pub place : i ≡ 8 + n
  pub few : n < 12
  pub count : k ≡ 0
  pub rest : strict s ≡ first_chunk s

pub record AtDesc (s : List ℕ) (i : ℕ) (h : List ℕ) (n k : ℕ) : Type 0 where
  pub holds : Holds h n s 20
  pub place : i ≡ 20 + n
  pub few : n < 32
  pub count : k ≡ 1
  pub rest : strict s ≡ first_body s

pub record AtHeader (s : List ℕ) (i : ℕ) (h : List ℕ) (n k : ℕ) (f : AudioFormat) (d : Option DataChunk) : Type 0 where
  pub p : ℕ
  pub holds : Holds h n s p
  pub place : i ≡ p + n
  pub few : n < 12
  pub rest : strict s ≡ walked s f (rules_for d) p k
  pub known : Known s d

-- in a body of which m bytes are to come: without them the answer is a refusal with this number, with them the walk goes on
pub record AtBody (s : List ℕ) (i n k number : ℕ) (f : AudioFormat) (d : Option DataChunk) (m : ℕ) : Type 0 where
  pub some : 0 < m
  pub none : n ≡ 0
  pub cut : length s < i + m → strict s ≡ Rejected number k
  pub on : i + m ≤ length s → strict s ≡ walked s f (rules_for d) (i + m) k
  pub known : Known s d

pub record AtEdit (s : List ℕ) (i : ℕ) (h : List ℕ) (n k : ℕ) (f : AudioFormat) (size : ℕ) : Type 0 where
  pub p : ℕ
  pub before : ℕ
  pub place : i ≡ p + 12 + n
  pub room : n ≤ length h
  pub few : n < 4
  pub count : k ≡ before + 1
  pub is : size ≡ size_at s p
  pub least : 4 ≤ size
  pub rest : strict s ≡ stepped s f Strict before (from_edit s p)

pub record AtOpen (s : List ℕ) (i k : ℕ) (f : AudioFormat) (start : ℕ) : Type 0 where
  pub past : start ≤ i
  pub rest : strict s ≡ Accepted (info_at f open_size start (left s start)) k

abbrev pub At : List ℕ → ℕ → List ℕ → ℕ → ℕ → Phase → Type 0
At s i h n k FileHeader = AtFile s i h n k
At s i h n k FirstHeader = AtFirst s i h n k
At s i h n k Desc = AtDesc s i h n k
At s i h n k (Header f d) = AtHeader s i h n k f d
At s i h n k (Skipping f d m) = AtBody s i n k cut_short f d m
At s i h n k (Edit f size) = AtEdit s i h n k f size
At s i h n k (OpenData f start) = AtOpen s i k f start
At s i h n k (ClosedData f c m) = AtBody s i n k data_past_end f (Some c) m
At s i h n k (Refused number) = (strict s ≡ Rejected number k) × (is_by_bytes number ≡ true)

pub record Follows (s : List ℕ) (i : ℕ) (r : Feeder) : Type 0 where
  pub room : length r.held ≡ 32
  pub total : is_refused r.phase ≡ false → r.total ≡ i
  pub within : i ≤ length s
  pub at : At s i r.held r.count r.chunks r.phase
