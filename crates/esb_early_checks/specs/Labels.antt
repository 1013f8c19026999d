-- Labels, `break` and `continue` (ECMA-262, 13.8.1, 13.9.1, 13.13.1).
use Rattle.std.specs.Prelude.{ℕ, Bool, false, not, ◌&&◌, ◌||◌, List, [], ◌∷◌, Option, Some, None}
use Rattle.esb_token.specs.declared.token.Token.{Token}
use Rattle.esb_early_checks.specs.declared.label.Label.{Label}
use Rattle.esb_early_checks.specs.declared.setting.Setting.{Setting}
use Rattle.esb_early_checks.specs.Findings.{Finding, breach_if, together}
use Rattle.esb_names.specs.Names.{is_same_name}

-- whether one of the labels has the name
abbrev pub has_label : List ℕ → Token → List Label → Bool
has_label text name [] = false
has_label text name (label ∷ labels) = is_same_name text label.name name || has_label text name labels

-- and is that of a loop
abbrev pub has_loop : List ℕ → Token → List Label → Bool
has_loop text name [] = false
has_loop text name (label ∷ labels) = (label.is_loop && is_same_name text label.name name) || has_loop text name labels

-- a label that is named and isn't round the place
abbrev pub unknown_label : List ℕ → Token → Finding
unknown_label text name labels = breach_if (not (has_label text name labels)) name.start 2 labels

-- a label that is named and isn't that of a loop; an unknown one is no further breach
abbrev pub no_loop : List ℕ → Token → Token → Finding
no_loop text word name labels = breach_if (has_label text name labels && not (has_loop text name labels)) word.start 3 labels

-- BreakStatement
abbrev pub break_breaches : List ℕ → Token → Option Token → Setting → Finding
break_breaches text word None setting = breach_if (not setting.in_breakable) word.start 3
break_breaches text word (Some name) setting = unknown_label text name

-- ContinueStatement
abbrev pub continue_breaches : List ℕ → Token → Option Token → Setting → Finding
continue_breaches text word None setting = breach_if (not setting.in_loop) word.start 3
continue_breaches text word (Some name) setting = together (unknown_label text name ∷ no_loop text word name ∷ [])

-- the label of a LabelledStatement, which is repeated where it is round the statement already
abbrev pub label_breaches : List ℕ → Token → Finding
label_breaches text name labels = breach_if (has_label text name labels) name.start 2 labels
