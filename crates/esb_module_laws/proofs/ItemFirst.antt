-- With which tokens module items begin.
use Rattle.std.proofs.Common.{◌≡◌, Bool, true, false, List, ◌∷◌, ◌++◌, Option, Some, None, refl, ap, ◌∙◌}
use Rattle.esb_token.specs.declared.kind.Kind.{Kind}
use Rattle.esb_token.specs.declared.kind.Kind.TheVariants as k
use Rattle.esb_token.specs.declared.token.Token.{Token}
use Rattle.esb_token.specs.declared.goal.Goal.TheVariants as goal
use Rattle.esb_tree.specs.declared.classes.Class.{Class}
use Rattle.esb_tree.specs.declared.functions.Function.{Function}
use Rattle.esb_tree.specs.declared.modules.ImportClause.{ImportClause}
use Rattle.esb_tree.specs.declared.statements.Statement.{Statement, out-Statement}
use Rattle.esb_tree.specs.Modules.{tokens_of_import_clause}
use Rattle.esb_tree.specs.Trees.{written}
use Rattle.esb_tree.specs.Yields.{maybe_token, tokens_of_function, tokens_of_class, tokens_of_statement}
use Rattle.esb_tree.proofs.TokenLines.{tokens_Function, tokens_Class, tokens_FunctionDeclaration, tokens_ClassDeclaration, tokens_Variables, tokens_Declaration}
use Rattle.esb_grammar.specs.declared.context.Context.{Context}
use Rattle.esb_grammar.specs.Edges.{is_declaration}
use Rattle.esb_grammar.specs.Grammar.{IsItem, statement, function_declaration, class_declaration, lexical_declaration, lexical_bindings, variable_bindings, IsStatement, variable_statement, IsFunction, nameless_function, named_function, IsClass, nameless_class, named_class}
use Rattle.esb_grammar.specs.Kinds.{is_binding, is_lexical}
use Rattle.esb_grammar.specs.Modules.{IsImportClause, default_binding, name_space, names, default_and_name_space, default_and_names}
use Rattle.esb_grammar.specs.Words.{is_async, if_there}
use Rattle.esb_reader.specs.Kinds.{agrees}
use Rattle.esb_reader.specs.Places.{Text}
use Rattle.esb_statement_laws.specs.Handed.{Begins}
use Rattle.esb_statement_laws.proofs.Chosen.{FunctionOpens, function_opens, class_opens}
use Rattle.esb_statement_laws.proofs.Small.{async_name}
use Rattle.esb_module_laws.specs.declared.item_sort.ItemSort.TheVariants as o
use Rattle.esb_module_laws.specs.Marks.{import_sort, export_sort}
use Rattle.esb_module_laws.proofs.Small.{binding_agrees}

-- ---- what an `import` binds

pub record ClauseFirst (x : ImportClause) : Type 0 where
  pub first : Token
  pub rest : List Token
  pub is : tokens_of_import_clause x ≡ first ∷ rest
  pub sort : import_sort first.kind ≡ o.Import
  pub same : agrees goal.Div first.kind ≡ true

binding_sort : (kind : Kind) → is_binding kind ≡ true → import_sort kind ≡ o.Import
binding_sort k.LeftParenthesis h = cc
binding_sort k.Dot h = cc
binding_sort k.Text h = cc
binding_sort _ h = refl

pub clause_first : (text : Text) (x : ImportClause) → IsImportClause text x → ClauseFirst x
clause_first text x (default_binding {name = t} h) = record { first = t; rest = _; is = refl; sort = binding_sort t.kind h; same = binding_agrees t.kind h }
clause_first text x (name_space {star = t} h g i) = record { first = t; rest = _; is = refl; sort = ap import_sort h; same = ap (agrees goal.Div) h }
clause_first text x (names {list = l} h) = record { first = l.begin; rest = _; is = refl; sort = ap import_sort h.begin; same = ap (agrees goal.Div) h.begin }
clause_first text x (default_and_name_space {default = t} h1 h2 h3 h4 h5) = record { first = t; rest = _; is = refl; sort = binding_sort t.kind h1; same = binding_agrees t.kind h1 }
clause_first text x (default_and_names {default = t} h1 h2 h3) = record { first = t; rest = _; is = refl; sort = binding_sort t.kind h1; same = binding_agrees t.kind h1 }

-- ---- functions and classes whose names may be absent

pub maybe_function_opens : (text : Text) (g : Function) → IsFunction text false g → FunctionOpens text g
maybe_function_opens text g (nameless_function a w st ps body h1 h2 h3 h4 h5 h6) =
    record { async_word = a; word = w; rest = _; is = tokens_Function written a w st None ps body; named = h1; kind = h2; line = h3 }
maybe_function_opens text g (named_function a w st name ps body h1 h2 h3 h4 h5 h6 h7) =
    record { async_word = a; word = w; rest = _; is = tokens_Function written a w st (Some name) ps body; named = h1; kind = h2; line = h3 }

pub maybe_class_opens : (text : Text) (c : Context) (g : Class) → IsClass text false c g → (t : Token) × (ts : List Token) × (tokens_of_class written g ≡ t ∷ ts) × (t.kind ≡ k.Class)
maybe_class_opens text c g (nameless_class word heritage begin members ending h1 h2 h3 h4 h5) = (word, _, tokens_Class written word None heritage begin members ending, h1)
maybe_class_opens text c g (named_class word name heritage begin members ending h1 h2 h3 h4 h5 h6) = (word, _, tokens_Class written word (Some name) heritage begin members ending, h1)

-- ---- declarations

-- with which a declaration begins
abbrev pub declares : Kind → Bool
declares k.Var = true
declares k.Let = true
declares k.Const = true
declares k.Function = true
declares k.Class = true
declares k.Name = true
declares _ = false

pub declares_export : (text : Text) (kind : Kind) (t u : Token) → declares kind ≡ true → export_sort text kind t u ≡ o.ExportDeclaration
declares_export text k.Star t u h = cc
declares_export text k.LeftBrace t u h = cc
declares_export text k.Default t u h = cc
declares_export text _ t u h = refl

pub declares_agrees : (kind : Kind) → declares kind ≡ true → agrees goal.Div kind ≡ true
declares_agrees k.End h = cc
declares_agrees k.RegExp h = cc
declares_agrees k.TemplateMiddle h = cc
declares_agrees k.TemplateTail h = cc
declares_agrees _ h = refl

lexical_declares : (kind : Kind) → is_lexical kind ≡ true → declares kind ≡ true
lexical_declares k.Let h = refl
lexical_declares k.Const h = refl
lexical_declares _ h = cc

variables_declare : (text : Text) (c : Context) (x : Statement) → IsStatement text c x → is_declaration x ≡ true → Begins declares (tokens_of_statement written x)
unfolding is_declaration out-Statement denote.Hole.Carrier.out
variables_declare text c x (variable_statement {semicolon = t} (variable_bindings word list h1 h2) h3) d =
    record { first = word; rest = _; is = tokens_Variables written _ t ∙ ap (λ ts. ts ++ written t) (tokens_Declaration written word list); kind = ap declares h1 }
variables_declare text c x _ d = cc

function_declares : (text : Text) (g : Function) → FunctionOpens text g → Begins declares (tokens_of_function written g)
function_declares text g v = by_async v.async_word v.word v.rest v.is v.named v.kind
  where
    by_async : (a : Option Token) (w : Token) (ts : List Token) → tokens_of_function written g ≡ maybe_token a ++ (w ∷ ts) → if_there (is_async text) a ≡ true → w.kind ≡ k.Function → Begins declares (tokens_of_function written g)
    by_async None w ts is named kind = record { first = w; rest = ts; is = is; kind = ap declares kind }
    by_async (Some t) w ts is named kind = record { first = t; rest = w ∷ ts; is = is; kind = ap declares (async_name text t named) }

pub declaration_first : (text : Text) (c : Context) (x : Statement) → IsItem text c x → is_declaration x ≡ true → Begins declares (tokens_of_statement written x)
declaration_first text c x (statement h) d = variables_declare text c x h d
declaration_first text c x (function_declaration {function = g} h) d =
    let b = function_declares text g (function_opens text g h) in
    record { first = b.first; rest = b.rest; is = tokens_FunctionDeclaration written g ∙ b.is; kind = b.kind }
declaration_first text c x (class_declaration {class = g} h) d =
    let b = class_opens text c g h in
    record { first = b.0; rest = b.1; is = tokens_ClassDeclaration written g ∙ b.2; kind = ap declares b.3 }
declaration_first text c x (lexical_declaration {semicolon = t} (lexical_bindings word list h g) e) d =
    record { first = word; rest = _; is = tokens_Variables written _ t ∙ ap (λ ts. ts ++ written t) (tokens_Declaration written word list); kind = lexical_declares word.kind h }
