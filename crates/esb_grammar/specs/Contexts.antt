-- The parameters of productions (ECMA-262, 5.1.5).
use Rattle.std.specs.Prelude.{Bool, true, false, Option, is_some}
use Rattle.esb_token.specs.declared.token.Token.{Token}
use Rattle.esb_grammar.specs.declared.context.Context.{Context}

-- in brackets
abbrev pub inside : Context → Context
inside c = record c { has_in = true }

-- in the head of a `for`
abbrev pub without_in : Context → Context
without_in c = record c { has_in = false }

-- of a module's items, where neither `yield` nor `await` is an operator
abbrev pub of_module : Context
of_module = record { has_in = true; has_yield = false; has_await = false }

-- of the parameters and the body of a function, by its `async` and its `*`
abbrev pub of_function : Option Token → Option Token → Context
of_function async_word star = record { has_in = true; has_yield = is_some star; has_await = is_some async_word }

-- of the body of an arrow function, which may be async
abbrev pub of_arrow : Context → Bool → Context
of_arrow c is_async = record { has_in = c.has_in; has_yield = false; has_await = is_async }
