-- The fields of a request, in the order in which one that is absent or does not fit is named.
use Rattle.std.specs.Prelude.{ℕ, List, [], ◌++◌, codes, Option, Some, None, Result, Ok, Err}
use Rattle.esb_wire.specs.declared.value.Value.{Value}
use Rattle.esb_flags.specs.declared.fields.Fields.{Fields}
use Rattle.esb_flags.specs.Shapes.{Shape, number, boolean, text, list_of, required, optional, entry, plugins}

-- an answer, or the text of the refusal
abbrev pub Answer : Type 0 → Type 0
Answer X = Result X (List ℕ)

infixl 10 ◌>>=◌
abbrev pub ◌>>=◌ : {A B : Type 0} → Answer A → (A → Answer B) → Answer B
(Err refusal) >>= f = Err refusal
(Ok x) >>= f = f x

abbrev pub or_missing : {X : Type 0} → List ℕ → Option X → Answer X
or_missing name None = Err (codes "Missing field: " ++ name)
or_missing name (Some x) = Ok x

abbrev pub needed : {X : Type 0} → List ℕ → Shape X → Value → Answer X
needed name shape request = or_missing name (required name shape request)

-- a field that may be absent, and then has this value
abbrev pub allowed : {X : Type 0} → List ℕ → X → Shape X → Value → Answer X
allowed name absent shape request = or_missing name (optional name absent shape request)

-- the fields of a `build` request
unfoldable pub fields_of : Value → Answer Fields
fields_of request = do
  key ← needed (codes "key") number request
  entries ← needed (codes "entries") (list_of entry) request
  flags ← needed (codes "flags") (list_of text) request
  cwd ← needed (codes "absWorkingDir") text request
  write ← needed (codes "write") boolean request
  context ← needed (codes "context") boolean request
  plugin_list ← allowed (codes "plugins") [] plugins request
  Ok (record { key = key; entries = entries; flags = flags; cwd = cwd; write = write; context = context; plugins = plugin_list })
