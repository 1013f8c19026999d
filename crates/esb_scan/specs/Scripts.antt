-- What the loading gives of a JavaScript file.
use Rattle.std.specs.Prelude.{◌≡◌, ◌≢◌, ℕ, ◌≤◌, Bool, if◌then◌else◌, List, [], ◌∷◌, length, codes}
use Rattle.std.specs.List.{list_any}
use Rattle.std.specs.Str.{bytes_eq, is_utf8}
use Rattle.esb_base.specs.declared.file_name.FileName.{FileName}
use Rattle.esb_ask.specs.declared.message.Message.{Message}
use Rattle.esb_ask.specs.declared.product.Loaded.{Loaded}
use Rattle.esb_ask.specs.declared.product.Loaded.TheVariants as loaded
use Rattle.esb_token.specs.declared.token.Token.{Token}
use Rattle.esb_tree.specs.declared.modules.Tree.{Tree}
use Rattle.esb_print.specs.Lines.{between, text_of}
use Rattle.esb_print_tree.specs.Laws.{lines_of}
use Rattle.esb_module.specs.Files.{Module, has_tree, breaks, has_none, module_of}
use Rattle.esb_scan.specs.Messages.{early_error, not_utf8, syntax_error, syntax_text, shown}
use Rattle.esb_scan.specs.Unbuilt.{not_built}

-- ---- files that this version lacks

-- the words by which files are linked to others
abbrev pub is_linking : List ℕ → Bool
is_linking word = list_any (bytes_eq word) (codes "import" ∷ codes "export" ∷ codes "require" ∷ codes "module" ∷ codes "exports" ∷ [])

-- whether a token is spelled as one of them
abbrev pub is_link : List ℕ → Token → Bool
is_link contents token = is_linking (between contents token.start token.end)

-- whether a tree has such a token
abbrev pub has_links : List ℕ → Tree → Bool
has_links contents tree = list_any (λ tokens. list_any (is_link contents) tokens) (lines_of tree)

-- ---- what is printed

-- what a tree gives: its printed text goes to the output
abbrev pub printed_by : List ℕ → FileName → List ℕ → Tree → Loaded
printed_by cwd name contents tree = if has_links contents tree then loaded.Refused (not_built cwd name)
    else loaded.Copied (text_of contents (lines_of tree))

-- a syntax error without its place
abbrev pub no_tree : List ℕ → FileName → Message
no_tree cwd name = record { text = syntax_text; file = shown cwd name; line = 0; column = 0; length = 0 }

abbrev pub script_by : List ℕ → FileName → List ℕ → Module → Loaded
script_by cwd name contents (has_tree tree) = printed_by cwd name contents tree
script_by cwd name contents (breaks at rule) = loaded.Refused (early_error cwd name contents at rule)
script_by cwd name contents has_none = loaded.Refused (no_tree cwd name)

-- what the contents of a JavaScript file give
abbrev pub script : List ℕ → FileName → List ℕ → Loaded
script cwd name contents = if is_utf8 contents then script_by cwd name contents (module_of contents)
    else loaded.Refused (not_utf8 cwd name)

-- ---- the place of a syntax error

-- a message is a syntax error at a place of these contents
abbrev pub IsOfContents : List ℕ → FileName → List ℕ → Message → Type 0
IsOfContents cwd name contents message = (at : ℕ) × (at ≤ length contents) × (message ≡ syntax_error cwd name contents at)

-- a syntax error in what they give is at one
abbrev pub IsPlacedScript : List ℕ → FileName → List ℕ → Loaded → Type 0
IsPlacedScript cwd name contents (loaded.Copied printed) = Unit {0}
IsPlacedScript cwd name contents (loaded.Refused message) = message.text ≡ syntax_text → IsOfContents cwd name contents message

abbrev pub IsNoSyntaxError : Loaded → Type 0
IsNoSyntaxError (loaded.Copied printed) = Unit {0}
IsNoSyntaxError (loaded.Refused message) = message.text ≢ syntax_text
