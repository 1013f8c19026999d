-- Where a node stands, as far as the early rules ask.
use Rattle.std.specs.Prelude.{ℕ, Bool, true, false, ◌&&◌, List, Option}
use Rattle.esb_token.specs.declared.token.Token.{Token}
use Rattle.esb_names.specs.Keys.{is_constructor}
use Rattle.esb_early_checks.specs.declared.setting.Setting.{Setting}

abbrev pub of_module : Setting
of_module = record { in_function = false; in_loop = false; in_breakable = false; has_new_target = false; has_super = false; has_super_call = false; in_parameters = false }

-- the body of a loop
abbrev pub of_loop : Setting → Setting
of_loop setting = record setting { in_loop = true; in_breakable = true }

-- the clauses of a `switch`
abbrev pub of_switch : Setting → Setting
of_switch setting = record setting { in_breakable = true }

-- the parameters of a function
abbrev pub of_parameters : Setting → Setting
of_parameters setting = record setting { in_parameters = true }

-- the body of an arrow function, which has the `super` and the `new.target` of what is round it
abbrev pub of_body : Setting → Setting
of_body setting = record setting { in_function = true; in_loop = false; in_breakable = false; in_parameters = false }

-- a function that is no method and no arrow function
abbrev pub of_function : Setting
of_function = record { in_function = true; in_loop = false; in_breakable = false; has_new_target = true; has_super = false; has_super_call = false; in_parameters = false }

-- a method, which may be the constructor of a class that extends another
abbrev pub of_method : Bool → Setting
of_method is_derived_constructor = record of_function { has_super = true; has_super_call = is_derived_constructor }

-- the parameters of a function that is no method and no arrow function
abbrev pub of_function_parameters : Setting
of_function_parameters = of_parameters of_function

-- A method by its key, of a class and not static or not, of a class that extends another or not: a constructor may call `super`.
abbrev pub of_named_method : List ℕ → Bool → Bool → Option Token → Setting
of_named_method text is_prototype is_derived key = of_method (is_prototype && (is_derived && is_constructor text key))

abbrev pub of_method_parameters : List ℕ → Bool → Bool → Option Token → Setting
of_method_parameters text is_prototype is_derived key = of_parameters (of_named_method text is_prototype is_derived key)
