-- The devices of a consultation at one moment, as far as they are observable.
use Rattle.std.specs.Prelude.{◌≡◌, ℕ, List, Option, Some, None}

-- a fact about what is observable, where it is
abbrev pub IfObservable : Option (List ℕ) → (List ℕ → Type 0) → Type 0
IfObservable None P = Unit {0}
IfObservable (Some bytes) P = P bytes

-- the bytes that the output and the log hold
pub record Held : Type 0 where
  pub out : Option (List ℕ)
  pub log : Option (List ℕ)

-- the bytes that the commands have left and that the output and the log hold, and the counts of faults
pub record Streams : Type 0 where
  pub script : Option (List ℕ)
  pub script_faults : ℕ
  pub out : Option (List ℕ)
  pub out_faults : ℕ
  pub log : Option (List ℕ)
  pub log_faults : ℕ

abbrev pub held : Option (List ℕ) → Option (List ℕ) → Held
held out log = record { out = out; log = log }

abbrev pub streams : Option (List ℕ) → ℕ → Option (List ℕ) → ℕ → Option (List ℕ) → ℕ → Streams
streams script script_faults out out_faults log log_faults = record {
  script = script;
  script_faults = script_faults;
  out = out;
  out_faults = out_faults;
  log = log;
  log_faults = log_faults;
}

abbrev pub held_by : Streams → Held
held_by s = held s.out s.log

-- no fault was counted
pub record IsWithoutFault (before now : Streams) : Type 0 where
  pub script : now.script_faults ≡ before.script_faults
  pub out : now.out_faults ≡ before.out_faults
  pub log : now.log_faults ≡ before.log_faults
