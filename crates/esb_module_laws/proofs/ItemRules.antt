-- Module items of all sorts are read exactly.
use Rattle.std.proofs.Common.{◌≡◌, inl, inr, ℕ, suc, ◌<◌, ◌≤◌, Bool, true, false, List, [], ◌∷◌, ◌++◌, Option, Some, None, refl, ap, sym, ◌∙◌, subst, arith}
use Rattle.esb_token.specs.declared.kind.Kind.TheVariants as k
use Rattle.esb_token.specs.declared.token.Token.{Token}
use Rattle.esb_token.specs.declared.goal.Goal.TheVariants as goal
use Rattle.esb_token.specs.Tokens.{SpelledBetween}
use Rattle.esb_tree.specs.declared.modules.ModuleItem.{ModuleItem}
use Rattle.esb_tree.specs.declared.modules.ModuleItem.TheVariants as m
use Rattle.esb_tree.specs.declared.modules.Specifiers.{Specifiers}
use Rattle.esb_tree.specs.declared.statements.Statement.{Statement}
use Rattle.esb_tree.specs.declared.statements.Statement.TheVariants as s
use Rattle.esb_tree.specs.Levels.{depth_of_statement}
use Rattle.esb_tree.specs.Modules.{tokens_of_specifiers, tokens_of_item, depth_of_item}
use Rattle.esb_tree.specs.Trees.{written}
use Rattle.esb_tree.specs.Yields.{maybe_token, tokens_of_expression, tokens_of_statement}
use Rattle.esb_tree.proofs.TokenLines.{tokens_FunctionDeclaration, tokens_ClassDeclaration}
use Rattle.esb_grammar.specs.Contexts.{of_module}
use Rattle.esb_grammar.specs.Grammar.{IsItem, IsAssignment}
use Rattle.esb_grammar.specs.Modules.{IsModuleItem, item, import_module, import_from, export_all, export_all_as, export_from, export_names, export_declaration, export_default_function, export_default_class, export_default}
use Rattle.esb_grammar.specs.Semicolons.{nothing_goes_on, from_goes_on, expression_goes_on}
use Rattle.esb_grammar.specs.Words.{is_async, if_there, on_line_behind, begins_declaration}
use Rattle.esb_reader.specs.Kinds.{agrees}
use Rattle.esb_reader.specs.Places.{Text}
use Rattle.esb_reader.specs.Reader.{node}
use Rattle.esb_reader.specs.Parts.{behind}
use Rattle.esb_reader.specs.Stands.{Rule, Made}
use Rattle.esb_reading_laws.proofs.Composed.{same_rule}
use Rattle.esb_reading_laws.proofs.Steps.{spelled_split}
use Rattle.esb_statement_laws.specs.Sequels.{RuleAt}
use Rattle.esb_statement_laws.specs.Handed.{statements}
use Rattle.esb_statement_laws.proofs.Ended.{value_ends}
use Rattle.esb_statement_laws.proofs.EndingsRead.{closes, lets_end_is, ends_of, of_ends}
use Rattle.esb_statement_laws.proofs.Followed.{rule_at, sorted_rule}
use Rattle.esb_module_laws.specs.declared.item_sort.ItemSort.{ItemSort}
use Rattle.esb_module_laws.specs.declared.item_sort.ItemSort.TheVariants as o
use Rattle.esb_module_laws.specs.Exact.{ExactItems}
use Rattle.esb_module_laws.specs.Items as read
use Rattle.esb_module_laws.specs.Items.{HandedItems, module_items, make_import_module, make_import, make_all_as, make_export_all, make_names_from, make_export_names, make_export_declaration, make_default_declaration, make_default_value}
use Rattle.esb_module_laws.specs.Marks.{import_sort, follows_item, item_sort_at}
use Rattle.esb_module_laws.proofs.Small.{there}
use Rattle.esb_module_laws.proofs.ItemFirst.{clause_first, maybe_function_opens, maybe_class_opens, declares_export, declares_agrees, declaration_first}
use Rattle.esb_module_laws.proofs.ItemParts as parts
use Rattle.esb_module_laws.proofs.ItemTold.{import_told, export_told, star_told, brace_told, class_told, function_told, async_told, value_told, allowed}

module _ (text : Text) (n : ℕ) (r : HandedItems) (x : ExactItems text n r) where
  abbrev stops : ModuleItem → Token → Bool
  stops y t = follows_item t.kind

  -- ---- the nodes of each sort

  abbrev Statements : ModuleItem → Type 0
  Statements = Made (statements (IsItem text of_module)) m.Item

  abbrev Modules : ModuleItem → Type 0
  Modules = Made (parts.ModuleParts text n) make_import_module

  abbrev Imports : ModuleItem → Type 0
  Imports = Made (parts.ImportParts text n) make_import

  abbrev Alls : ModuleItem → Type 0
  Alls = Made (parts.AllParts text n) make_export_all

  abbrev Names : ModuleItem → Type 0
  Names = Made (parts.NamesParts text n) make_export_names

  abbrev Declarations : ModuleItem → Type 0
  Declarations = Made (parts.DeclarationParts text n r x) make_export_declaration

  abbrev Functions : ModuleItem → Type 0
  Functions = Made (parts.DefaultParts text n r x (parts.IsDefaultFunction text n r x)) make_default_declaration

  abbrev Classes : ModuleItem → Type 0
  Classes = Made (parts.DefaultParts text n r x (parts.IsDefaultClass text n r x)) make_default_declaration

  abbrev AllValues : ModuleItem → Type 0
  AllValues = Made (parts.ValueParts text n r x) make_default_value

  abbrev Values : ModuleItem → Type 0
  Values y = (g : AllValues y) × (begins_declaration text (tokens_of_expression written g.0.0.1.1) ≡ false)

  abbrev Sorted : ItemSort → ModuleItem → Type 0
  Sorted o.Statement = Statements
  Sorted o.ImportModule = Modules
  Sorted o.Import = Imports
  Sorted o.ExportAll = Alls
  Sorted o.ExportNames = Names
  Sorted o.ExportDeclaration = Declarations
  Sorted o.DefaultFunction = Functions
  Sorted o.DefaultClass = Classes
  Sorted o.DefaultValue = Values

  -- ---- each is told

  spelled_of : (y z : ModuleItem) (i j : ℕ) → y ≡ z → SpelledBetween text i (tokens_of_item written y) j → SpelledBetween text i (tokens_of_item written z) j
  spelled_of y z i j e h = subst (λ u. SpelledBetween text i (tokens_of_item written u) j) e h

  statement_told : (y : ModuleItem) (i j : ℕ) → Statements y → SpelledBetween text i (tokens_of_item written y) j → depth_of_item y < suc n → stops y (behind text j) ≡ true → item_sort_at text i ≡ o.Statement
  statement_told y i j good h low stop =
      let z = good.0 in
      x.told i (node z (depth_of_statement z)) j
      (x.statements_read.complete i (node z (depth_of_statement z)) j
      (record { good = good.2; levels = refl; fits = below (subst (λ u. depth_of_item u < suc n) good.1 low); spelled = spelled_of y (m.Item z) i j good.1 h })
      (subst (λ u. depth_of_item u < suc n) good.1 low) (parts.statement_follows z (behind text j) stop))
    where
      below : {d : ℕ} → d < suc n → d ≤ n
      below h = omega arith

  module_told : (y : ModuleItem) (i j : ℕ) → Modules y → SpelledBetween text i (tokens_of_item written y) j → item_sort_at text i ≡ o.ImportModule
  module_told y i j good h =
      let p = good.0 in
      import_told text i p.0.0 p.0.1 (written p.1) j (spelled_of y (make_import_module p) i j good.1 h) good.2.0.0 (ap (agrees goal.Div) good.2.0.1) ∙ ap import_sort good.2.0.1

  import_is_told : (y : ModuleItem) (i j : ℕ) → Imports y → SpelledBetween text i (tokens_of_item written y) j → item_sort_at text i ≡ o.Import
  import_is_told y i j good h =
      let p = good.0 in
      let c = clause_first text p.0.1.0 good.2.0.1.0 in
      let us = p.0.1.1.0 ∷ p.0.1.1.1 ∷ written p.1 in
      import_told text i p.0.0 c.first (c.rest ++ us) j (subst (λ ts. SpelledBetween text i (p.0.0 ∷ (ts ++ us)) j) c.is (spelled_of y (make_import p) i j good.1 h)) good.2.0.0 c.same ∙ c.sort

  all_of_told : (word star : Token) (q : Option (Token × Token)) (clause : Token × Token) (semicolon : Option Token) (i j : ℕ) → word.kind ≡ k.Export → star.kind ≡ k.Star → SpelledBetween text i (tokens_of_item written (make_all_as word star q clause semicolon)) j → item_sort_at text i ≡ o.ExportAll
  all_of_told word star None clause semicolon i j e d h = star_told text i word star (clause.0 ∷ clause.1 ∷ written semicolon) j h e d
  all_of_told word star (Some renaming) clause semicolon i j e d h = star_told text i word star (renaming.0 ∷ renaming.1 ∷ clause.0 ∷ clause.1 ∷ written semicolon) j h e d

  all_told : (y : ModuleItem) (i j : ℕ) → Alls y → SpelledBetween text i (tokens_of_item written y) j → item_sort_at text i ≡ o.ExportAll
  all_told y i j good h = let p = good.0 in all_of_told p.0.0 p.0.1.0 p.0.1.1.0 p.0.1.1.1 p.1 i j good.2.0.0 good.2.0.1.0 (spelled_of y (make_export_all p) i j good.1 h)

  names_of_told : (word : Token) (list : Specifiers) (q : Option (Token × Token)) (semicolon : Option Token) (i j : ℕ) → word.kind ≡ k.Export → list.begin.kind ≡ k.LeftBrace → SpelledBetween text i (tokens_of_item written (make_names_from word list q semicolon)) j → item_sort_at text i ≡ o.ExportNames
  names_of_told word list None semicolon i j e d h = brace_told text i word list.begin _ j h e d
  names_of_told word list (Some clause) semicolon i j e d h = brace_told text i word list.begin _ j h e d

  names_told : (y : ModuleItem) (i j : ℕ) → Names y → SpelledBetween text i (tokens_of_item written y) j → item_sort_at text i ≡ o.ExportNames
  names_told y i j good h = let p = good.0 in names_of_told p.0.0 p.0.1.0 p.0.1.1 p.1 i j good.2.0.0 good.2.0.1.0.begin (spelled_of y (make_export_names p) i j good.1 h)

  declaration_told : (y : ModuleItem) (i j : ℕ) → Declarations y → SpelledBetween text i (tokens_of_item written y) j → item_sort_at text i ≡ o.ExportDeclaration
  declaration_told y i j good h =
      let p = good.0 in
      let b = declaration_first text of_module p.1 good.2.1.0 good.2.1.1 in
      export_told text i p.0 b.first b.rest j (subst (λ ts. SpelledBetween text i (p.0 ∷ ts) j) b.is (spelled_of y (make_export_declaration p) i j good.1 h)) good.2.0 (declares_agrees b.first.kind b.kind)
      ∙ declares_export text b.first.kind _ _ b.kind

  function_of_told : (word default : Token) (a : Option Token) (w : Token) (ts : List Token) (i j : ℕ) → word.kind ≡ k.Export → default.kind ≡ k.Default → SpelledBetween text i (word ∷ default ∷ (maybe_token a ++ (w ∷ ts))) j → if_there (is_async text) a ≡ true → w.kind ≡ k.Function → on_line_behind a (w ∷ []) ≡ true → item_sort_at text i ≡ o.DefaultFunction
  function_of_told word default None w ts i j e d h named kind line = function_told text i word default w ts j h e d kind
  function_of_told word default (Some t) w ts i j e d h named kind line = async_told text i word default t w ts j h e d named kind line

  function_is_told : (y : ModuleItem) (i j : ℕ) → Functions y → SpelledBetween text i (tokens_of_item written y) j → item_sort_at text i ≡ o.DefaultFunction
  function_is_told y i j good h =
      let p = good.0 in
      let g = good.2.1.1 in
      let v = maybe_function_opens text g.0 g.2 in
      function_of_told p.0 p.1.0 v.async_word v.word v.rest i j good.2.0 good.2.1.0
      (subst (λ ts. SpelledBetween text i (p.0 ∷ p.1.0 ∷ ts) j) (ap (tokens_of_statement written) g.1 ∙ tokens_FunctionDeclaration written g.0 ∙ v.is) (spelled_of y (make_default_declaration p) i j good.1 h)) v.named v.kind v.line

  class_is_told : (y : ModuleItem) (i j : ℕ) → Classes y → SpelledBetween text i (tokens_of_item written y) j → item_sort_at text i ≡ o.DefaultClass
  class_is_told y i j good h =
      let p = good.0 in
      let g = good.2.1.1 in
      let v = maybe_class_opens text of_module g.0 g.2 in
      class_told text i p.0 p.1.0 v.0 v.1 j
      (subst (λ ts. SpelledBetween text i (p.0 ∷ p.1.0 ∷ ts) j) (ap (tokens_of_statement written) g.1 ∙ tokens_ClassDeclaration written g.0 ∙ v.2) (spelled_of y (make_default_declaration p) i j good.1 h)) good.2.0 good.2.1.0 v.3

  value_is_told : (y : ModuleItem) (i j : ℕ) → Values y → SpelledBetween text i (tokens_of_item written y) j → item_sort_at text i ≡ o.DefaultValue
  value_is_told y i j good h =
      let p = good.0.0 in
      let v = p.0.1.1 in
      let g = good.0.2 in
      let spelled = spelled_of y (make_default_value p) i j good.0.1 h in
      let cut = spelled_split text p.0.1.0.end (tokens_of_expression written v) (written p.1) j spelled.2.2 in
      let end = value_ends text (IsAssignment text of_module) n r.value x.values v p.0.1.0.end cut.0 g.0.1.1 cut.1 in
      value_told text n r.value x.values i p.0.0 p.0.1.0 v (tokens_of_expression written v ++ written p.1) cut.0 j spelled g.0.0 g.0.1.0
      (record { good = g.0.1.1; spelled = cut.1; closed = closes text _ (lets_end_is (expression_goes_on v)) (tokens_of_expression written v) p.1 cut.0 j end.0 end.1 g.1 cut.2 }) good.1

  shows : (q : ItemSort) (y : ModuleItem) (i j : ℕ) → Sorted q y → SpelledBetween text i (tokens_of_item written y) j → depth_of_item y < suc n → stops y (behind text j) ≡ true → item_sort_at text i ≡ q
  shows o.Statement y i j good h low stop = statement_told y i j good h low stop
  shows o.ImportModule y i j good h low stop = module_told y i j good h
  shows o.Import y i j good h low stop = import_is_told y i j good h
  shows o.ExportAll y i j good h low stop = all_told y i j good h
  shows o.ExportNames y i j good h low stop = names_told y i j good h
  shows o.ExportDeclaration y i j good h low stop = declaration_told y i j good h
  shows o.DefaultFunction y i j good h low stop = function_is_told y i j good h
  shows o.DefaultClass y i j good h low stop = class_is_told y i j good h
  shows o.DefaultValue y i j good h low stop = value_is_told y i j good h

  -- ---- each is read where it is told

  values_at : (i : ℕ) → item_sort_at text i ≡ o.DefaultValue → RuleAt text (module_items Values) n (suc n) stops (read.default_value text n r) i
  values_at i sort =
      let rule = parts.value_rule text n r x in
      record {
        sound = λ y j h.
            let s = rule.sound i y j h in
            let p = s.good.0 in
            record {
              good = (s.good, allowed text n r.value x.values i p.0.0 p.0.1.0 p.0.1.1 (written p.1) j (spelled_of y.tree (make_default_value p) i j s.good.1 s.spelled) s.good.2.0.0 s.good.2.0.1.0 s.good.2.0.1.1 sort);
              levels = s.levels;
              fits = s.fits;
              spelled = s.spelled;
            };
        complete = λ y j s low stop. rule.complete i y j (record { good = s.good.0; levels = s.levels; fits = s.fits; spelled = s.spelled }) low stop;
      }

  rules : (q : ItemSort) (i : ℕ) → item_sort_at text i ≡ q → RuleAt text (module_items (Sorted q)) n (suc n) stops (read.item_of_sort text n r q) i
  rules o.Statement i sort = rule_at text (module_items Statements) n (suc n) stops _ i (parts.statement_rule text n r x)
  rules o.ImportModule i sort = rule_at text (module_items Modules) n (suc n) stops _ i (parts.import_module_rule text n r)
  rules o.Import i sort = rule_at text (module_items Imports) n (suc n) stops _ i (parts.import_rule text n r)
  rules o.ExportAll i sort = rule_at text (module_items Alls) n (suc n) stops _ i (parts.export_all_rule text n r)
  rules o.ExportNames i sort = rule_at text (module_items Names) n (suc n) stops _ i (parts.export_names_rule text n r)
  rules o.ExportDeclaration i sort = rule_at text (module_items Declarations) n (suc n) stops _ i (parts.declaration_rule text n r x)
  rules o.DefaultFunction i sort = rule_at text (module_items Functions) n (suc n) stops _ i (parts.function_rule text n r x)
  rules o.DefaultClass i sort = rule_at text (module_items Classes) n (suc n) stops _ i (parts.class_rule text n r x)
  rules o.DefaultValue i sort = values_at i sort

  abbrev IsAny : ModuleItem → Type 0
  IsAny y = (q : ItemSort) × Sorted q y

  any_rule : Rule text (module_items IsAny) n (suc n) stops (read.module_item text n r)
  unfolding read.module_item
  any_rule = sorted_rule text (module_items Statements) Sorted n (suc n) stops (item_sort_at text) (read.item_of_sort text n r) rules shows

  -- ---- in the words of the grammar

  all_of : (word star : Token) (q : Option (Token × Token)) (clause : Token × Token) (semicolon : Option Token) → (parts.AllParts text n).Good ((word, (star, (q, clause))), semicolon) → IsModuleItem text (make_all_as word star q clause semicolon)
  all_of word star None clause semicolon g = export_all g.0.0 g.0.1.0 g.0.1.1.1 (ends_of text nothing_goes_on (clause.1 ∷ []) semicolon g.1)
  all_of word star (Some renaming) clause semicolon g =
      let h = there (parts.Renaming text n) renaming g.0.1.1.0 in
      export_all_as g.0.0 g.0.1.0 h.0 h.1 g.0.1.1.1 (ends_of text nothing_goes_on (clause.1 ∷ []) semicolon g.1)

  names_of : (word : Token) (list : Specifiers) (q : Option (Token × Token)) (semicolon : Option Token) → (parts.NamesParts text n).Good ((word, (list, q)), semicolon) → IsModuleItem text (make_names_from word list q semicolon)
  names_of word list None semicolon g = export_names g.0.0 g.0.1.0 (ends_of text (from_goes_on text) (tokens_of_specifiers list) semicolon g.1)
  names_of word list (Some clause) semicolon g = export_from g.0.0 g.0.1.0 (there (parts.From text n) clause g.0.1.1) (ends_of text nothing_goes_on (clause.1 ∷ []) semicolon g.1)

  function_of : (word default : Token) (z : Statement) → word.kind ≡ k.Export → default.kind ≡ k.Default → parts.IsDefaultFunction text n r x z → IsModuleItem text (m.ExportDefaultDeclaration word default z)
  function_of word default z e d g = subst (λ u. IsModuleItem text (m.ExportDefaultDeclaration word default u)) (sym g.1) (export_default_function e d g.2)

  class_of : (word default : Token) (z : Statement) → word.kind ≡ k.Export → default.kind ≡ k.Default → parts.IsDefaultClass text n r x z → IsModuleItem text (m.ExportDefaultDeclaration word default z)
  class_of word default z e d g = subst (λ u. IsModuleItem text (m.ExportDefaultDeclaration word default u)) (sym g.1) (export_default_class e d g.2)

  item_of : (y : ModuleItem) → IsAny y → IsModuleItem text y
  item_of y (o.Statement, g) = subst (IsModuleItem text) (sym g.1) (item g.2)
  item_of y (o.ImportModule, g) = subst (IsModuleItem text) (sym g.1) (import_module g.2.0.0 g.2.0.1 (ends_of text nothing_goes_on (g.0.0.1 ∷ []) g.0.1 g.2.1))
  item_of y (o.Import, g) = subst (IsModuleItem text) (sym g.1) (import_from g.2.0.0 g.2.0.1.0 g.2.0.1.1 (ends_of text nothing_goes_on (g.0.0.1.1.1 ∷ []) g.0.1 g.2.1))
  item_of y (o.ExportAll, g) = subst (IsModuleItem text) (sym g.1) (all_of g.0.0.0 g.0.0.1.0 g.0.0.1.1.0 g.0.0.1.1.1 g.0.1 g.2)
  item_of y (o.ExportNames, g) = subst (IsModuleItem text) (sym g.1) (names_of g.0.0.0 g.0.0.1.0 g.0.0.1.1 g.0.1 g.2)
  item_of y (o.ExportDeclaration, g) = subst (IsModuleItem text) (sym g.1) (export_declaration g.2.0 g.2.1.1 g.2.1.0)
  item_of y (o.DefaultFunction, g) = subst (IsModuleItem text) (sym g.1) (function_of g.0.0 g.0.1.0 g.0.1.1 g.2.0 g.2.1.0 g.2.1.1)
  item_of y (o.DefaultClass, g) = subst (IsModuleItem text) (sym g.1) (class_of g.0.0 g.0.1.0 g.0.1.1 g.2.0 g.2.1.0 g.2.1.1)
  item_of y (o.DefaultValue, g) =
      subst (IsModuleItem text) (sym g.0.1)
      (export_default g.0.2.0.0 g.0.2.0.1.0 g.1 g.0.2.0.1.1 (ends_of text (expression_goes_on g.0.0.0.1.1) (tokens_of_expression written g.0.0.0.1.1) g.0.0.1 g.0.2.1))

  item_back : (y : ModuleItem) → IsModuleItem text y → IsAny y
  item_back y (item {x = z} h) = (o.Statement, (z, refl, h))
  item_back y (import_module {word = w} {source = t} {semicolon = e} h1 h2 h3) = (o.ImportModule, (((w, t), e), refl, ((h1, h2), of_ends text nothing_goes_on (t ∷ []) e h3)))
  item_back y (import_from {word = w} {clause = c} {from = f} {source = t} {semicolon = e} h1 h2 h3 h4) = (o.Import, (((w, (c, (f, t))), e), refl, ((h1, (h2, h3)), of_ends text nothing_goes_on (t ∷ []) e h4)))
  item_back y (export_all {word = w} {star = u} {from = f} {source = t} {semicolon = e} h1 h2 h3 h4) =
      (o.ExportAll, (((w, (u, (None, (f, t)))), e), refl, ((h1, (h2, (inr refl, h3))), of_ends text nothing_goes_on (t ∷ []) e h4)))
  item_back y (export_all_as {word = w} {star = u} {as_word = a} {name = v} {from = f} {source = t} {semicolon = e} h1 h2 h3 h4 h5 h6) =
      (o.ExportAll, (((w, (u, (Some (a, v), (f, t)))), e), refl, ((h1, (h2, (inl ((a, v), refl, (h3, h4)), h5))), of_ends text nothing_goes_on (t ∷ []) e h6)))
  item_back y (export_from {word = w} {list = l} {from = f} {source = t} {semicolon = e} h1 h2 h3 h4) =
      (o.ExportNames, (((w, (l, Some (f, t))), e), refl, ((h1, (h2, inl ((f, t), refl, h3))), of_ends text nothing_goes_on (t ∷ []) e h4)))
  item_back y (export_names {word = w} {list = l} {semicolon = e} h1 h2 h3) = (o.ExportNames, (((w, (l, None)), e), refl, ((h1, (h2, inr refl)), of_ends text (from_goes_on text) (tokens_of_specifiers l) e h3)))
  item_back y (export_declaration {word = w} {x = z} h1 h2 h3) = (o.ExportDeclaration, ((w, z), refl, (h1, (h3, h2))))
  item_back y (export_default_function {word = w} {default = d} {function = f} h1 h2 h3) = (o.DefaultFunction, ((w, (d, s.FunctionDeclaration f)), refl, (h1, (h2, (f, refl, h3)))))
  item_back y (export_default_class {word = w} {default = d} {class = c} h1 h2 h3) = (o.DefaultClass, ((w, (d, s.ClassDeclaration c)), refl, (h1, (h2, (c, refl, h3)))))
  item_back y (export_default {word = w} {default = d} {x = v} {semicolon = e} h1 h2 h3 h4 h5) =
      (o.DefaultValue, ((((w, (d, v)), e), refl, ((h1, (h2, h4)), of_ends text (expression_goes_on v) (tokens_of_expression written v) e h5)), h3))

  -- a module item stops before each token that may follow one
  pub item_rule : Rule text (module_items (IsModuleItem text)) n (suc n) stops (read.module_item text n r)
  item_rule = same_rule text (module_items IsAny) (module_items (IsModuleItem text)) n (suc n) stops stops (read.module_item text n r) any_rule refl refl item_of item_back (λ y t good h. h)
