-- Methods, and bodies of functions, are read exactly.
use Rattle.std.proofs.Common.{◌≡◌, ◌⊎◌, inl, inr, ℕ, ◌+◌, ◌-◌, ◌<◌, max, nat_eq, Bool, true, false, not, ◌&&◌, ◌||◌, List, [], ◌∷◌, ◌++◌, map, take, drop, Some, None, codes, refl, ap, sym, ◌∙◌, subst, arith}
use Rattle.std.specs.Cmp.Lexicographic.{pointwise, same_text}
use Rattle.esb_token.specs.declared.kind.Kind.{Kind}
use Rattle.esb_token.specs.declared.kind.Kind.TheVariants as k
use Rattle.esb_token.specs.declared.token.Token.{Token}
use Rattle.esb_token.specs.declared.goal.Goal.TheVariants as goal
use Rattle.esb_token.specs.Tokens.{SpelledBetween}
use Rattle.esb_tree.specs.declared.expressions.Expression.{Expression}
use Rattle.esb_tree.specs.declared.functions.Method.{Method}
use Rattle.esb_tree.specs.declared.patterns.Bracketed.{Bracketed}
use Rattle.esb_tree.specs.declared.patterns.PropertyName.{PropertyName}
use Rattle.esb_tree.specs.declared.patterns.PropertyName.TheVariants as pn
use Rattle.esb_tree.specs.declared.statements.Block.{Block}
use Rattle.esb_tree.specs.declared.statements.Statement.{Statement}
use Rattle.esb_tree.specs.Levels.{most, depth_of_property_name, depth_of_bracketed, depth_of_block, depth_of_method, depth_of_statement}
use Rattle.esb_tree.specs.Trees.{written}
use Rattle.esb_tree.specs.Yields.{tokens_of_expression, tokens_of_property_name, tokens_of_bracketed, tokens_of_block, tokens_of_method}
use Rattle.esb_tree.proofs.TokenLines.{tokens_Named, tokens_Computed, tokens_Method, tokens_Block, tokens_Bracketed}
use Rattle.esb_tree.proofs.LevelLines.{levels_Method, levels_Block}
use Rattle.esb_grammar.specs.declared.context.Context.{Context}
use Rattle.esb_grammar.specs.declared.form.Form.TheVariants as f
use Rattle.esb_grammar.specs.Contexts.{inside}
use Rattle.esb_grammar.specs.Grammar.{IsBracketed, IsPropertyName, literal_property_name, computed_property_name, IsMethod, plain_method, async_method, accessor, IsBlock, braces}
use Rattle.esb_grammar.specs.Kinds.{is_name, is_property_word, is_left_bracket, is_right_brace, is_star}
use Rattle.esb_grammar.specs.Words.{is_word, is_async, on_line}
use Rattle.esb_reader.specs.declared.node.Node.{Node}
use Rattle.esb_reader.specs.Kinds.{agrees}
use Rattle.esb_reader.specs.Places.{Text}
use Rattle.esb_reader.specs.Reader.{Reader, node}
use Rattle.esb_reader.specs.Parts.{behind, both, token, token_in, made, above, choice}
use Rattle.esb_reader.specs.Stands.{Syntax, Stands, Rule, Made, tokens, tokens_in, pairs, which}
use Rattle.esb_reading_laws.proofs.Composed.{plain_rule, above_rule, choice_rule, same_rule}
use Rattle.esb_reading_laws.proofs.Steps.{spelled_split}
use Rattle.esb_expression_laws.specs.Laws.{lists}
use Rattle.esb_literal_laws.specs.Forks.{fork, guard, second, on_one_line, reads_before}
use Rattle.esb_literal_laws.specs.Names.{property_name}
use Rattle.esb_literal_laws.specs.Bindings.{parameters}
use Rattle.esb_literal_laws.specs.Methods as read
use Rattle.esb_literal_laws.specs.Methods.{function_context, is_accessor, begins_name, make_block, Definition, make_plain, make_starred, make_worded, make_worded_starred, at_word}
use Rattle.esb_literal_laws.specs.Laws.{ReadsWithin, ReadsBodies, names, blocks, statement_lists, methods, MethodRule}
use Rattle.esb_literal_laws.proofs.Forks.{fork_rule, guard_rule, lower_rule}
use Rattle.esb_literal_laws.proofs.Seen.{left_of, right_of, and_of, and_false, or_of, or_right, either_of, sees, sees_kind}
use Rattle.esb_literal_laws.proofs.Sequences.{free_rule, lead_rule, lead_in_rule, close_rule, sees_before}
use Rattle.esb_literal_laws.proofs.NameParts.{Named_before, name_seen, name_rule, word_agrees}
use Rattle.esb_literal_laws.proofs.TargetParts.{parameters_rule}

-- ---- words

name_is : (kind : Kind) → is_name kind ≡ true → kind ≡ k.Name
name_is k.Name h = refl
name_is _ h = cc

word_is_name : (text word : List ℕ) (t : Token) → is_word text word t ≡ true → t.kind ≡ k.Name
unfolding is_word
word_is_name text word t h = name_is t.kind (left_of (is_name t.kind) _ h)

pub async_is_name : (text : List ℕ) (t : Token) → is_async text t ≡ true → t.kind ≡ k.Name
async_is_name text t h = word_is_name text (codes "async") t h

accessor_is_name : (text : List ℕ) (t : Token) → is_accessor text t ≡ true → t.kind ≡ k.Name
accessor_is_name text t h = by_word (either_of (is_word text (codes "get") t) (is_word text (codes "set") t) h)
  where
    by_word : (is_word text (codes "get") t ≡ true) ⊎ (is_word text (codes "set") t ≡ true) → t.kind ≡ k.Name
    by_word (inl g) = word_is_name text (codes "get") t g
    by_word (inr g) = word_is_name text (codes "set") t g

pub no_word : (text word : List ℕ) (t : Token) (kind : Kind) → t.kind ≡ kind → is_name kind ≡ false → is_word text word t ≡ false
unfolding is_word
no_word text word t kind e h = ap (λ b. b && pointwise nat_eq (take (t.end - t.start) (drop t.start text)) word) (ap is_name e ∙ h)

-- a token has one text
other_word : (text one other : List ℕ) (t : Token) → is_word text one t ≡ true → pointwise nat_eq one other ≡ false → is_word text other t ≡ false
unfolding is_word
other_word text one other t h apart =
    let same = same_text (take (t.end - t.start) (drop t.start text)) one (sym (right_of (is_name t.kind) _ h)) in
    and_false (is_name t.kind) _ (ap (λ bs. pointwise nat_eq bs other) same ∙ apart)

accessor_no_async : (text : List ℕ) (t : Token) → is_accessor text t ≡ true → is_async text t ≡ false
accessor_no_async text t h = by_word (either_of (is_word text (codes "get") t) (is_word text (codes "set") t) h)
  where
    by_word : (is_word text (codes "get") t ≡ true) ⊎ (is_word text (codes "set") t ≡ true) → is_async text t ≡ false
    by_word (inl g) = other_word text (codes "get") (codes "async") t g refl
    by_word (inr g) = other_word text (codes "set") (codes "async") t g refl

pub async_agrees : (text : List ℕ) (t : Token) → is_async text t ≡ true → agrees goal.Div t.kind ≡ true
async_agrees text t h = ap (agrees goal.Div) (async_is_name text t h)

accessor_agrees : (text : List ℕ) (t : Token) → is_accessor text t ≡ true → agrees goal.Div t.kind ≡ true
accessor_agrees text t h = ap (agrees goal.Div) (accessor_is_name text t h)

word_no_star : (kind : Kind) → is_property_word kind ≡ true → is_star kind ≡ false
word_no_star k.Star h = cc
word_no_star _ h = refl

-- ---- what a name shows

pub name_begins : (text : Text) (c : Context) (x : PropertyName) (us : List Token) (i j : ℕ) → IsPropertyName text c x → SpelledBetween text i (tokens_of_property_name written x ++ us) j
    → (begins_name (behind text i) ≡ true) × (is_star (behind text i).kind ≡ false) × (on_one_line text i ≡ on_line (tokens_of_property_name written x))
name_begins text c x us i j (literal_property_name {t = t} word) h =
    let spelled = subst (λ ts. SpelledBetween text i (ts ++ us) j) (tokens_Named written t) h in
    let here = sees text i t us j spelled (word_agrees t.kind word) in
    (ap begins_name here ∙ ap (λ b. b || (is_left_bracket t.kind || is_star t.kind)) word, ap (λ (u : Token). is_star u.kind) here ∙ word_no_star t.kind word, ap (λ (u : Token). not u.after_line) here ∙ sym (ap on_line (tokens_Named written t)))
name_begins text c x us i j (computed_property_name {begin = t} {x = y} {ending = v} h1 h2 h3) h =
    let spelled = subst (λ ts. SpelledBetween text i (ts ++ us) j) (tokens_Computed written t y v) h in
    let here = sees_kind text i t _ j k.LeftBracket spelled h1 refl in
    (ap begins_name here ∙ ap (λ kind. is_property_word kind || (is_left_bracket kind || is_star kind)) h1, ap (λ (u : Token). is_star u.kind) here ∙ ap is_star h1, ap (λ (u : Token). not u.after_line) here ∙ sym (ap on_line (tokens_Computed written t y v)))

module _ (text : Text) (values : Context → ℕ → Reader (Node Expression)) (items : Context → ℕ → Reader (Node (List Statement))) (c : Context) (n : ℕ) (r : ReadsWithin text n values) (b : ReadsBodies text n items) where
  -- ---- bodies

  abbrev Block_parts : Context → Syntax (Token × (List Statement × Token))
  Block_parts own = pairs (tokens k.LeftBrace) (pairs (statement_lists text own) (tokens k.RightBrace))

  same_max : (m : ℕ) → m ≡ max 0 (max m 0)
  same_max m = omega arith

  block_there : (own : Context) (x : Block) → Made (Block_parts own) make_block x → IsBlock text own x
  block_there own x h = subst (IsBlock text own) (sym h.1) (braces h.0.0 h.0.1.0 h.0.1.1 h.2.0 h.2.1.0 h.2.1.1)

  block_back : (own : Context) (x : Block) → IsBlock text own x → Made (Block_parts own) make_block x
  block_back own x (braces begin body ending h1 h2 h3) = ((begin, (body, ending)), refl, (h1, (h2, h3)))

  pub block_rule : (own : Context) → Rule text (blocks text own) n n (λ _ _. true) (read.block text values items own n)
  unfolding read.block
  block_rule own =
      same_rule text (record { yields = tokens_of_block written; levels_of = depth_of_block; Good = Made (Block_parts own) make_block }) (blocks text own) n n (λ _ _. true) (λ _ _. true) (made make_block 0 (both (token text k.LeftBrace) (both (items own n) (token text k.RightBrace))))
      (plain_rule text (Block_parts own) (tokens_of_block written) depth_of_block n n (λ _ _. true) (λ _ _. true) make_block (both (token text k.LeftBrace) (both (items own n) (token text k.RightBrace)))
      (lead_rule text (pairs (statement_lists text own) (tokens k.RightBrace)) n k.LeftBrace (λ _ _. true) (both (items own n) (token text k.RightBrace)) refl
      (close_rule text (statement_lists text own) n k.RightBrace (λ _ t. is_right_brace t.kind) (items own n) refl (b.rule own n (omega arith)) (λ a t e. ap is_right_brace e)))
      (λ p. tokens_Block written p.0 p.1.0 p.1.1) (λ p. levels_Block p.0 p.1.0 p.1.1 ∙ same_max (most (map depth_of_statement p.1.0))) (λ p t h. refl))
      refl refl (block_there own) (block_back own) (λ x t good h. refl)

  -- ---- a name, parameters and a body

  abbrev Definitions : Context → Syntax Definition
  Definitions own = pairs (names text c) (pairs (lists text f.Parameters own) (blocks text own))

  pub definition_rule : (own : Context) → Rule text (Definitions own) n n (λ _ _. true) (read.definition text values items c own n)
  unfolding read.definition
  definition_rule own =
      free_rule text (names text c) (pairs (lists text f.Parameters own) (blocks text own)) n (λ _ _. true) (property_name text values c n) (both (parameters text values own n) (read.block text values items own n)) (name_rule text values c n (r.rule (inside c) n (omega arith)))
      (free_rule text (lists text f.Parameters own) (blocks text own) n (λ _ _. true) (parameters text values own n) (read.block text values items own n) (parameters_rule text values own n r) (block_rule own))

  -- what a definition shows
  definition_begins : (own : Context) (d : Definition) (i j : ℕ) → (Definitions own).Good d → SpelledBetween text i ((Definitions own).yields d) j
      → (begins_name (behind text i) ≡ true) × (is_star (behind text i).kind ≡ false) × (on_one_line text i ≡ on_line (tokens_of_property_name written d.0))
  definition_begins own d i j good h = name_begins text c d.0 _ i j good.0 h

  abbrev of_methods : (Method → Type 0) → Syntax Method
  of_methods Good = record { yields = tokens_of_method written; levels_of = depth_of_method; Good = Good }

  abbrev pub IsPlain : Method → Type 0
  IsPlain = Made (Definitions (function_context false false)) make_plain

  abbrev Generator_parts : Syntax (Token × Definition)
  Generator_parts = pairs (tokens k.Star) (Definitions (function_context false true))

  abbrev pub IsGenerator : Method → Type 0
  IsGenerator = Made Generator_parts make_starred

  abbrev Accessor_parts : Syntax (Token × Definition)
  Accessor_parts = pairs (tokens_in (is_accessor text)) (Definitions (function_context false false))

  abbrev IsAccess : Method → Type 0
  IsAccess = Made Accessor_parts make_worded

  abbrev OnLine : Syntax Definition
  OnLine = which (Definitions (function_context true false)) (λ d. (Definitions (function_context true false)).Good d × (on_line (tokens_of_property_name written d.0) ≡ true))

  abbrev Async_parts : Syntax (Token × Definition)
  Async_parts = pairs (tokens_in (is_async text)) OnLine

  abbrev IsAsync : Method → Type 0
  IsAsync = Made Async_parts make_worded

  abbrev Starred : Syntax (Token × Definition)
  Starred = pairs (tokens k.Star) (Definitions (function_context true true))

  abbrev StarredOnLine : Syntax (Token × Definition)
  StarredOnLine = which Starred (λ p. Starred.Good p × (not p.0.after_line ≡ true))

  abbrev Async_generator_parts : Syntax (Token × (Token × Definition))
  Async_generator_parts = pairs (tokens_in (is_async text)) StarredOnLine

  abbrev IsAsyncGenerator : Method → Type 0
  IsAsyncGenerator = Made Async_generator_parts make_worded_starred

  one_more : (l : ℕ) → l + 1 ≡ max 0 l + 1
  one_more l = omega arith

  two_more : (l : ℕ) → l + 1 ≡ max 0 (max 0 l) + 1
  two_more l = omega arith

  abbrev depth : Definition → ℕ
  depth d = max (depth_of_property_name d.0) (max (depth_of_bracketed d.1.0) (depth_of_block d.1.1))

  pub plain_method_rule : Rule text (of_methods IsPlain) n n (λ _ _. true) (read.plain_method text values items c n)
  unfolding read.plain_method
  plain_method_rule =
      lower_rule text (of_methods IsPlain) n (λ _ _. true) (above n make_plain (read.definition text values items c (function_context false false) n))
      (above_rule text (Definitions (function_context false false)) (tokens_of_method written) depth_of_method n n (λ _ _. true) (λ _ _. true) make_plain (read.definition text values items c (function_context false false) n)
      (definition_rule (function_context false false)) (omega arith)
      (λ d. tokens_Method written None None d.0 d.1.0 d.1.1) (λ d. levels_Method None None d.0 d.1.0 d.1.1) (λ x t h. refl))

  pub generator_method_rule : Rule text (of_methods IsGenerator) n n (λ _ _. true) (read.generator_method text values items c n)
  unfolding read.generator_method
  generator_method_rule =
      lower_rule text (of_methods IsGenerator) n (λ _ _. true) (above n make_starred (both (token text k.Star) (read.definition text values items c (function_context false true) n)))
      (above_rule text Generator_parts (tokens_of_method written) depth_of_method n n (λ _ _. true) (λ _ _. true) make_starred (both (token text k.Star) (read.definition text values items c (function_context false true) n))
      (lead_rule text (Definitions (function_context false true)) n k.Star (λ _ _. true) (read.definition text values items c (function_context false true) n) refl (definition_rule (function_context false true))) (omega arith)
      (λ p. tokens_Method written None (Some p.0) p.1.0 p.1.1.0 p.1.1.1) (λ p. levels_Method None (Some p.0) p.1.0 p.1.1.0 p.1.1.1 ∙ one_more (depth p.1)) (λ x t h. refl))

  accessor_rule : Rule text (of_methods IsAccess) n n (λ _ _. true) (read.accessor text values items c n)
  unfolding read.accessor
  accessor_rule =
      lower_rule text (of_methods IsAccess) n (λ _ _. true) (above n make_worded (both (token_in text goal.Div (is_accessor text)) (read.definition text values items c (function_context false false) n)))
      (above_rule text Accessor_parts (tokens_of_method written) depth_of_method n n (λ _ _. true) (λ _ _. true) make_worded (both (token_in text goal.Div (is_accessor text)) (read.definition text values items c (function_context false false) n))
      (lead_in_rule text (Definitions (function_context false false)) n (is_accessor text) (λ _ _. true) (read.definition text values items c (function_context false false) n) (accessor_agrees text) (definition_rule (function_context false false))) (omega arith)
      (λ p. tokens_Method written (Some p.0) None p.1.0 p.1.1.0 p.1.1.1) (λ p. levels_Method (Some p.0) None p.1.0 p.1.1.0 p.1.1.1 ∙ one_more (depth p.1)) (λ x t h. refl))

  async_rule : Rule text (of_methods IsAsync) n n (λ _ _. true) (read.async_method text values items c n)
  unfolding read.async_method
  async_rule =
      lower_rule text (of_methods IsAsync) n (λ _ _. true) (above n make_worded (both (token_in text goal.Div (is_async text)) (guard (on_one_line text) (read.definition text values items c (function_context true false) n))))
      (above_rule text Async_parts (tokens_of_method written) depth_of_method n n (λ _ _. true) (λ _ _. true) make_worded (both (token_in text goal.Div (is_async text)) (guard (on_one_line text) (read.definition text values items c (function_context true false) n)))
      (lead_in_rule text OnLine n (is_async text) (λ _ _. true) (guard (on_one_line text) (read.definition text values items c (function_context true false) n)) (async_agrees text)
      (guard_rule text (Definitions (function_context true false)) n n (λ _ _. true) (on_one_line text) (λ d. on_line (tokens_of_property_name written d.0)) (read.definition text values items c (function_context true false) n) (definition_rule (function_context true false))
      (λ d i j good h. (definition_begins (function_context true false) d i j good h).2))) (omega arith)
      (λ p. tokens_Method written (Some p.0) None p.1.0 p.1.1.0 p.1.1.1) (λ p. levels_Method (Some p.0) None p.1.0 p.1.1.0 p.1.1.1 ∙ one_more (depth p.1)) (λ x t h. refl))

  starred_line : (p : Token × Definition) (i j : ℕ) → Starred.Good p → SpelledBetween text i (Starred.yields p) j → on_one_line text i ≡ not p.0.after_line
  starred_line p i j good h = ap (λ (u : Token). not u.after_line) (sees_kind text i p.0 _ j k.Star h good.0 refl)

  async_generator_rule : Rule text (of_methods IsAsyncGenerator) n n (λ _ _. true) (read.async_generator_method text values items c n)
  unfolding read.async_generator_method
  async_generator_rule =
      lower_rule text (of_methods IsAsyncGenerator) n (λ _ _. true) (above n make_worded_starred (both (token_in text goal.Div (is_async text)) (guard (on_one_line text) (both (token text k.Star) (read.definition text values items c (function_context true true) n)))))
      (above_rule text Async_generator_parts (tokens_of_method written) depth_of_method n n (λ _ _. true) (λ _ _. true) make_worded_starred (both (token_in text goal.Div (is_async text)) (guard (on_one_line text) (both (token text k.Star) (read.definition text values items c (function_context true true) n))))
      (lead_in_rule text StarredOnLine n (is_async text) (λ _ _. true) (guard (on_one_line text) (both (token text k.Star) (read.definition text values items c (function_context true true) n))) (async_agrees text)
      (guard_rule text Starred n n (λ _ _. true) (on_one_line text) (λ p. not p.0.after_line) (both (token text k.Star) (read.definition text values items c (function_context true true) n))
      (lead_rule text (Definitions (function_context true true)) n k.Star (λ _ _. true) (read.definition text values items c (function_context true true) n) refl (definition_rule (function_context true true))) starred_line)) (omega arith)
      (λ p. tokens_Method written (Some p.0) (Some p.1.0) p.1.1.0 p.1.1.1.0 p.1.1.1.1) (λ p. levels_Method (Some p.0) (Some p.1.0) p.1.1.0 p.1.1.1.0 p.1.1.1.1 ∙ two_more (depth p.1.1)) (λ x t h. refl))

  -- ---- what methods show

  -- a word, and what goes on behind it: whether the word is `async`, and whether a `*` follows
  pub record Worded (i : ℕ) (is_asynchronous star : Bool) : Type 0 where
    pub kind : (behind text i).kind ≡ k.Name
    pub async_word : is_async text (behind text i) ≡ is_asynchronous
    pub word : at_word text i ≡ true
    pub goes_on : begins_name (second text i) ≡ true
    pub starred : is_star (second text i).kind ≡ star

  async_seen : (x : Method) (i j : ℕ) → IsAsync x → SpelledBetween text i (tokens_of_method written x) j → Worded i true false
  unfolding at_word
  async_seen x i j good h =
      let t = good.0.0 in
      let d = good.0.1 in
      let spelled = subst (λ ts. SpelledBetween text i ts j) (ap (tokens_of_method written) good.1 ∙ tokens_Method written (Some t) None d.0 d.1.0 d.1.1) h in
      let here = sees text i t _ j spelled (async_agrees text t good.2.0) in
      let rest = definition_begins (function_context true false) d t.end j good.2.1.0 spelled.2 in
      let next = ap (λ (u : Token). begins_name (behind text u.end)) here ∙ rest.0 in
      let is = ap (is_async text) here ∙ good.2.0 in
      record { kind = ap (λ (u : Token). u.kind) here ∙ async_is_name text t good.2.0; async_word = is; word = and_of _ _ (ap (λ b. b || is_accessor text (behind text i)) is) next; goes_on = next; starred = ap (λ (u : Token). is_star (behind text u.end).kind) here ∙ rest.1 }

  async_generator_seen : (x : Method) (i j : ℕ) → IsAsyncGenerator x → SpelledBetween text i (tokens_of_method written x) j → Worded i true true
  unfolding at_word
  async_generator_seen x i j good h =
      let t = good.0.0 in
      let s = good.0.1.0 in
      let d = good.0.1.1 in
      let spelled = subst (λ ts. SpelledBetween text i ts j) (ap (tokens_of_method written) good.1 ∙ tokens_Method written (Some t) (Some s) d.0 d.1.0 d.1.1) h in
      let here = sees text i t (s ∷ (tokens_of_property_name written d.0 ++ (tokens_of_bracketed written d.1.0 ++ tokens_of_block written d.1.1))) j spelled (async_agrees text t good.2.0) in
      let follows : second text i ≡ s = ap (λ (u : Token). behind text u.end) here ∙ sees_kind text t.end s _ j k.Star spelled.2 good.2.1.0.0 refl in
      let star : is_star (second text i).kind ≡ true = ap (λ (u : Token). is_star u.kind) follows ∙ ap is_star good.2.1.0.0 in
      let next : begins_name (second text i) ≡ true = or_right (is_property_word (second text i).kind) _ (or_right (is_left_bracket (second text i).kind) _ star) in
      let is = ap (is_async text) here ∙ good.2.0 in
      record { kind = ap (λ (u : Token). u.kind) here ∙ async_is_name text t good.2.0; async_word = is; word = and_of _ _ (ap (λ b. b || is_accessor text (behind text i)) is) next; goes_on = next; starred = star }

  accessor_seen : (x : Method) (i j : ℕ) → IsAccess x → SpelledBetween text i (tokens_of_method written x) j → Worded i false false
  unfolding at_word
  accessor_seen x i j good h =
      let t = good.0.0 in
      let d = good.0.1 in
      let spelled = subst (λ ts. SpelledBetween text i ts j) (ap (tokens_of_method written) good.1 ∙ tokens_Method written (Some t) None d.0 d.1.0 d.1.1) h in
      let here = sees text i t _ j spelled (accessor_agrees text t good.2.0) in
      let rest = definition_begins (function_context false false) d t.end j good.2.1 spelled.2 in
      let next = ap (λ (u : Token). begins_name (behind text u.end)) here ∙ rest.0 in
      let is = ap (is_accessor text) here ∙ good.2.0 in
      record { kind = ap (λ (u : Token). u.kind) here ∙ accessor_is_name text t good.2.0; async_word = ap (is_async text) here ∙ accessor_no_async text t good.2.0; word = and_of _ _ (or_right (is_async text (behind text i)) _ is) next; goes_on = next; starred = ap (λ (u : Token). is_star (behind text u.end).kind) here ∙ rest.1 }

  -- where no word stands
  no_name_word : (i : ℕ) (kind : Kind) → (behind text i).kind ≡ kind → is_name kind ≡ false → at_word text i ≡ false
  unfolding at_word
  no_name_word i kind e h =
      ap (λ b. b && begins_name (second text i)) (or_of (is_async text (behind text i)) _ (no_word text (codes "async") (behind text i) kind e h) (or_of (is_word text (codes "get") (behind text i)) _ (no_word text (codes "get") (behind text i) kind e h) (no_word text (codes "set") (behind text i) kind e h)))

  pub generator_seen : (x : Method) (i j : ℕ) → IsGenerator x → SpelledBetween text i (tokens_of_method written x) j → (behind text i).kind ≡ k.Star
  generator_seen x i j good h =
      let spelled = subst (λ ts. SpelledBetween text i ts j) (ap (tokens_of_method written) good.1 ∙ tokens_Method written None (Some good.0.0) good.0.1.0 good.0.1.1.0 good.0.1.1.1) h in
      ap (λ (u : Token). u.kind) (sees_kind text i good.0.0 _ j k.Star spelled good.2.0 refl) ∙ good.2.0

  -- behind a name stands a token that begins no name
  pub no_word_before : (u : Token) (i : ℕ) → begins_name u ≡ false → Named_before text u i → (at_word text i ≡ false) × (is_star (behind text i).kind ≡ false)
  unfolding at_word
  no_word_before u i other (inl h) = (and_false (is_async text (behind text i) || is_accessor text (behind text i)) _ (ap begins_name h.1 ∙ other), word_no_star (behind text i).kind h.0)
  no_word_before u i other (inr h) = (no_name_word i k.LeftBracket h refl, ap is_star h)

  -- the parenthesis behind the name of a method
  pub plain_before : (x : Method) (i j : ℕ) (good : IsPlain x) → SpelledBetween text i (tokens_of_method written x) j → (u : Token) × (u.kind ≡ k.LeftParenthesis) × Named_before text u i
  plain_before x i j good h = by_list good.0.1.0 good.2.1.0 (subst (λ ts. SpelledBetween text i ts j) (ap (tokens_of_method written) good.1 ∙ tokens_Method written None None good.0.0 good.0.1.0 good.0.1.1) h)
    where
      by_list : (l : Bracketed) → IsBracketed text f.Parameters (function_context false false) l → SpelledBetween text i (tokens_of_property_name written good.0.0 ++ (tokens_of_bracketed written l ++ tokens_of_block written good.0.1.1)) j → (u : Token) × (u.kind ≡ k.LeftParenthesis) × Named_before text u i
      by_list l (IsBracketed.bracketed begin list ending h1 h2 h3) s =
          let spelled = subst (λ ts. SpelledBetween text i (tokens_of_property_name written good.0.0 ++ (ts ++ tokens_of_block written good.0.1.1)) j) (tokens_Bracketed written begin list ending) s in
          (begin, h1, name_seen text c good.0.0 begin _ i j good.2.0 (ap (agrees goal.Div) h1) spelled)

  -- its name is read, and the parenthesis behind it seen
  pub plain_name_before : (test : Token → Bool) (x : Method) (levels i j : ℕ) → IsPlain x → levels ≡ depth_of_method x → levels < n → SpelledBetween text i (tokens_of_method written x) j → ((u : Token) → u.kind ≡ k.LeftParenthesis → test u ≡ false) → reads_before text test (property_name text values c n) i ≡ false
  plain_name_before test x levels i j good deep low h other = by_list good.0.1.0 good.2.1.0 (subst (λ ts. SpelledBetween text i ts j) (ap (tokens_of_method written) good.1 ∙ tokens_Method written None None good.0.0 good.0.1.0 good.0.1.1) h)
    where
      depths : levels ≡ max (depth_of_property_name good.0.0) (max (depth_of_bracketed good.0.1.0) (depth_of_block good.0.1.1)) + 1
      depths = deep ∙ ap depth_of_method good.1 ∙ levels_Method None None good.0.0 good.0.1.0 good.0.1.1

      less : depth_of_property_name good.0.0 < n
      less = let d = depths in omega (arith, d, low)

      by_list : (l : Bracketed) → IsBracketed text f.Parameters (function_context false false) l → SpelledBetween text i (tokens_of_property_name written good.0.0 ++ (tokens_of_bracketed written l ++ tokens_of_block written good.0.1.1)) j → reads_before text test (property_name text values c n) i ≡ false
      by_list l (IsBracketed.bracketed begin list ending h1 h2 h3) s =
          let spelled = subst (λ ts. SpelledBetween text i (tokens_of_property_name written good.0.0 ++ (ts ++ tokens_of_block written good.0.1.1)) j) (tokens_Bracketed written begin list ending) s in
          let cut = spelled_split text i (tokens_of_property_name written good.0.0) _ j spelled in
          let one = node good.0.0 (depth_of_property_name good.0.0) in
          let stands : Stands text (names text c) n one i cut.0 = record { good = good.2.0; levels = refl; fits = omega (arith, less); spelled = cut.1 } in
          sees_before text test (property_name text values c n) i one cut.0 ((name_rule text values c n (r.rule (inside c) n (omega arith))).complete i one cut.0 stands less refl)
          ∙ ap test (sees_kind text cut.0 begin _ j k.LeftParenthesis cut.2 h1 refl) ∙ other begin h1

  parenthesis_other : (u : Token) → u.kind ≡ k.LeftParenthesis → begins_name u ≡ false
  parenthesis_other u e = ap (λ kind. is_property_word kind || (is_left_bracket kind || is_star kind)) e

  pub plain_seen : (x : Method) (i j : ℕ) → IsPlain x → SpelledBetween text i (tokens_of_method written x) j → (at_word text i ≡ false) × (is_star (behind text i).kind ≡ false)
  plain_seen x i j good h = let p = plain_before x i j good h in no_word_before p.0 i (parenthesis_other p.0 p.1) p.2

  -- ---- all kinds of method

  abbrev pub IsWorded : Method → Type 0
  IsWorded x = (IsAsyncGenerator x ⊎ IsAsync x) ⊎ IsAccess x

  abbrev pub IsAny : Method → Type 0
  IsAny x = IsWorded x ⊎ (IsGenerator x ⊎ IsPlain x)

  abbrev async_words : ℕ → Bool
  async_words i = is_async text (behind text i)

  abbrev stars : ℕ → Bool
  stars i = is_star (second text i).kind

  pub worded_seen : (x : Method) (i j : ℕ) → IsWorded x → SpelledBetween text i (tokens_of_method written x) j → ((behind text i).kind ≡ k.Name) × (at_word text i ≡ true) × (begins_name (second text i) ≡ true)
  worded_seen x i j (inl (inl good)) h = let s = async_generator_seen x i j good h in (s.kind, s.word, s.goes_on)
  worded_seen x i j (inl (inr good)) h = let s = async_seen x i j good h in (s.kind, s.word, s.goes_on)
  worded_seen x i j (inr good) h = let s = accessor_seen x i j good h in (s.kind, s.word, s.goes_on)

  async_shown : (x : Method) (i j : ℕ) → IsAsyncGenerator x ⊎ IsAsync x → SpelledBetween text i (tokens_of_method written x) j → async_words i ≡ true
  async_shown x i j (inl good) h = (async_generator_seen x i j good h).async_word
  async_shown x i j (inr good) h = (async_seen x i j good h).async_word

  pub worded_rule : Rule text (of_methods IsWorded) n n (λ _ _. true) (read.worded_method text values items c n)
  unfolding read.worded_method
  worded_rule =
      fork_rule text (of_methods IsWorded) (λ x. IsAsyncGenerator x ⊎ IsAsync x) IsAccess n n (λ _ _. true) async_words (fork stars (read.async_generator_method text values items c n) (read.async_method text values items c n)) (read.accessor text values items c n)
      (fork_rule text (of_methods IsWorded) IsAsyncGenerator IsAsync n n (λ _ _. true) stars (read.async_generator_method text values items c n) (read.async_method text values items c n) async_generator_rule async_rule
      (λ i x j s low stop. (async_generator_seen x.tree i j s.good s.spelled).starred) (λ i x j s low stop. (async_seen x.tree i j s.good s.spelled).starred))
      accessor_rule (λ i x j s low stop. async_shown x.tree i j s.good s.spelled) (λ i x j s low stop. (accessor_seen x.tree i j s.good s.spelled).async_word)

  pub other_seen : (x : Method) (i j : ℕ) → IsGenerator x ⊎ IsPlain x → SpelledBetween text i (tokens_of_method written x) j → at_word text i ≡ false
  other_seen x i j (inl good) h = no_name_word i k.Star (generator_seen x i j good h) refl
  other_seen x i j (inr good) h = (plain_seen x i j good h).0

  pub method_there : (x : Method) → IsAny x → IsMethod text c x
  method_there x (inl (inl (inl h))) =
      let p = h.0 in
      let g = h.2.1.0 in
      subst (IsMethod text c) (sym h.1) (async_method p.0 (Some p.1.0) p.1.1.0 p.1.1.1.0 p.1.1.1.1 h.2.0 (ap is_star g.0) h.2.1.1 g.1.0 g.1.1.0 g.1.1.1)
  method_there x (inl (inl (inr h))) =
      let p = h.0 in
      let g = h.2.1.0 in
      subst (IsMethod text c) (sym h.1) (async_method p.0 None p.1.0 p.1.1.0 p.1.1.1 h.2.0 refl h.2.1.1 g.0 g.1.0 g.1.1)
  method_there x (inl (inr h)) =
      let p = h.0 in
      let g = h.2.1 in
      subst (IsMethod text c) (sym h.1) (accessor p.0 p.1.0 p.1.1.0 p.1.1.1 h.2.0 g.0 g.1.0 g.1.1)
  method_there x (inr (inl h)) =
      let p = h.0 in
      let g = h.2.1 in
      subst (IsMethod text c) (sym h.1) (plain_method (Some p.0) p.1.0 p.1.1.0 p.1.1.1 (ap is_star h.2.0) g.0 g.1.0 g.1.1)
  method_there x (inr (inr h)) =
      let p = h.0 in
      let g = h.2 in
      subst (IsMethod text c) (sym h.1) (plain_method None p.0 p.1.0 p.1.1 refl g.0 g.1.0 g.1.1)

  star_is : (kind : Kind) → is_star kind ≡ true → kind ≡ k.Star
  star_is k.Star h = refl
  star_is _ h = cc

  pub method_back : (x : Method) → IsMethod text c x → IsAny x
  method_back x (plain_method None name ps body h1 h2 h3 h4) = inr (inr ((name, (ps, body)), refl, (h2, (h3, h4))))
  method_back x (plain_method (Some star) name ps body h1 h2 h3 h4) = inr (inl ((star, (name, (ps, body))), refl, (star_is star.kind h1, (h2, (h3, h4)))))
  method_back x (async_method word None name ps body h1 h2 h3 h4 h5 h6) = inl (inl (inr ((word, (name, (ps, body))), refl, (h1, ((h4, (h5, h6)), h3)))))
  method_back x (async_method word (Some star) name ps body h1 h2 h3 h4 h5 h6) = inl (inl (inl ((word, (star, (name, (ps, body)))), refl, (h1, ((star_is star.kind h2, (h4, (h5, h6))), h3)))))
  method_back x (accessor word name ps body h1 h2 h3 h4) = inl (inr ((word, (name, (ps, body))), refl, (h1, (h2, (h3, h4)))))

  -- its first token
  abbrev First : List Token → Type 0
  First ts = (t : Token) × (us : List Token) × (ts ≡ t ∷ us)

  pub method_first : (x : Method) → IsMethod text c x → First (tokens_of_method written x)
  method_first x (plain_method None name ps body h1 h2 h3 h4) = by_name name h2
    where
      by_name : (y : PropertyName) → IsPropertyName text c y → First (tokens_of_method written (make_plain (y, (ps, body))))
      by_name y (literal_property_name {t = t} word) = (t, tokens_of_bracketed written ps ++ tokens_of_block written body, tokens_Method written None None (pn.Named t) ps body ∙ ap (λ ts. ts ++ (tokens_of_bracketed written ps ++ tokens_of_block written body)) (tokens_Named written t))
      by_name y (computed_property_name {begin = t} {x = z} {ending = u} g1 g2 g3) =
          (t, (tokens_of_expression written z ++ u ∷ []) ++ (tokens_of_bracketed written ps ++ tokens_of_block written body), tokens_Method written None None (pn.Computed t z u) ps body ∙ ap (λ ts. ts ++ (tokens_of_bracketed written ps ++ tokens_of_block written body)) (tokens_Computed written t z u))
  method_first x (plain_method (Some star) name ps body h1 h2 h3 h4) = (star, _, tokens_Method written None (Some star) name ps body)
  method_first x (async_method word star name ps body h1 h2 h3 h4 h5 h6) = (word, _, tokens_Method written (Some word) star name ps body)
  method_first x (accessor word name ps body h1 h2 h3 h4) = (word, _, tokens_Method written (Some word) None name ps body)

  pub method_read : Rule text (methods text c) n n (λ _ _. true) (read.method text values items c n)
  unfolding read.method
  method_read =
      same_rule text (of_methods IsAny) (methods text c) n n (λ _ _. true) (λ _ _. true) (fork (at_word text) (read.worded_method text values items c n) (choice text (λ t. is_star t.kind) (read.generator_method text values items c n) (read.plain_method text values items c n)))
      (fork_rule text (methods text c) IsWorded (λ x. IsGenerator x ⊎ IsPlain x) n n (λ _ _. true) (at_word text) (read.worded_method text values items c n) (choice text (λ t. is_star t.kind) (read.generator_method text values items c n) (read.plain_method text values items c n)) worded_rule
      (choice_rule text (methods text c) IsGenerator IsPlain n n (λ _ _. true) (λ t. is_star t.kind) (read.generator_method text values items c n) (read.plain_method text values items c n) generator_method_rule plain_method_rule
      (λ x i j good h. ap is_star (generator_seen x i j good h)) (λ x i j good h stop. (plain_seen x i j good h).1))
      (λ i x j s low stop. (worded_seen x.tree i j s.good s.spelled).1) (λ i x j s low stop. other_seen x.tree i j s.good s.spelled))
      refl refl method_there method_back (λ x t good h. refl)

pub method_rule : MethodRule
method_rule text values items c n r b = method_read text values items c n r b
