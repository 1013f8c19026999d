-- What is the same but for the place of a syntax error. A text that has no tree has many places at which none goes on, and any place of the text may be told: so definitions leave it out, and what is told is theirs in its normal form.
use Rattle.std.specs.Prelude.{◌≡◌, ℕ, ◌≤◌, if◌then◌else◌, List, length, map, Some}
use Rattle.std.specs.Str.{bytes_eq}
use Rattle.esb_base.specs.declared.file_name.FileName.{FileName}
use Rattle.esb_ask.specs.declared.question.Question.{Question}
use Rattle.esb_ask.specs.declared.question.Question.TheVariants as question
use Rattle.esb_ask.specs.declared.answer.Answer.{Answer}
use Rattle.esb_ask.specs.declared.answer.Answer.TheVariants as answer
use Rattle.esb_ask.specs.declared.message.Message.{Message}
use Rattle.esb_ask.specs.declared.product.Product.{Product}
use Rattle.esb_ask.specs.declared.product.Product.TheVariants as product
use Rattle.esb_ask.specs.declared.product.Loaded.{Loaded}
use Rattle.esb_ask.specs.declared.product.Loaded.TheVariants as loaded
use Rattle.esb_ask.specs.declared.outcome.Outcome.{Outcome}
use Rattle.esb_ask.specs.declared.outcome.Outcome.TheVariants as outcome
use Rattle.esb_ask.specs.Table.{answer_to}
use Rattle.esb_scan.specs.Messages.{syntax_text, syntax_error}

-- ---- without the place

-- a syntax error is told without its place
abbrev pub normal_message : Message → Message
normal_message message = if bytes_eq message.text syntax_text then record message { line = 0; column = 0 } else message

abbrev pub normal_loaded : Loaded → Loaded
normal_loaded (loaded.Copied contents) = loaded.Copied contents
normal_loaded (loaded.Refused message) = loaded.Refused (normal_message message)

-- an entry's product has no syntax error
abbrev pub normal_product : Product → Product
normal_product (product.Entry where_to) = product.Entry where_to
normal_product (product.Load loading) = product.Load (normal_loaded loading)

abbrev pub normal_outcome : Outcome → Outcome
normal_outcome (outcome.Files files) = outcome.Files files
normal_outcome (outcome.Errors messages) = outcome.Errors (map normal_message messages)
normal_outcome outcome.Canceled = outcome.Canceled
normal_outcome outcome.Memory = outcome.Memory

-- ---- the place

-- a message is a syntax error at a place of a file that was read
pub record IsSyntaxError (cwd : List ℕ) (table : List (Question × Answer)) (message : Message) : Type 0 where
  pub name : FileName
  pub contents : List ℕ
  pub at : ℕ
  pub was_read : answer_to table (question.Read name.path) ≡ Some (answer.Bytes contents)
  pub within : at ≤ length contents
  pub told : message ≡ syntax_error cwd name contents at

-- a syntax error is at a place of its file
abbrev pub IsPlaced : List ℕ → List (Question × Answer) → Message → Type 0
IsPlaced cwd table message = message.text ≡ syntax_text → IsSyntaxError cwd table message

abbrev pub IsPlacedLoad : List ℕ → List (Question × Answer) → Loaded → Type 0
IsPlacedLoad cwd table (loaded.Copied contents) = Unit {0}
IsPlacedLoad cwd table (loaded.Refused message) = IsPlaced cwd table message

abbrev pub IsPlacedProduct : List ℕ → List (Question × Answer) → Product → Type 0
IsPlacedProduct cwd table (product.Entry where_to) = Unit {0}
IsPlacedProduct cwd table (product.Load loading) = IsPlacedLoad cwd table loading
