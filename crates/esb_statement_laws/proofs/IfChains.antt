-- IfStatements are read exactly: each `else` belongs to the nearest `if` that can have it.
use Rattle.std.proofs.Common.{◌≡◌, ◌⊎◌, inl, inr, ℕ, zero, suc, ◌<◌, ◌≤◌, max, Bool, true, false, not, ◌&&◌, ◌||◌, cond, List, [], ◌∷◌, ◌++◌, length, map, Some, refl, ap, sym, ◌∙◌, subst, append_assoc, append-nil, length-append, arith}
use Rattle.std.specs.List.{flat_map}
use Rattle.esb_token.specs.declared.kind.Kind.{Kind}
use Rattle.esb_token.specs.declared.kind.Kind.TheVariants as k
use Rattle.esb_token.specs.declared.token.Token.{Token}
use Rattle.esb_token.specs.declared.goal.Goal.TheVariants as goal
use Rattle.esb_token.specs.Tokens.{SpelledBetween}
use Rattle.esb_tree.specs.declared.classes.ClassElement.TheOpen.{Else-F}
use Rattle.esb_tree.specs.declared.expressions.Expression.{Expression}
use Rattle.esb_tree.specs.declared.statements.Else.{Else, out-Else, out-roll-Else}
use Rattle.esb_tree.specs.declared.statements.Else.TheVariants as ot
use Rattle.esb_tree.specs.declared.statements.ElseIf.{ElseIf, out-ElseIf, out-roll-ElseIf}
use Rattle.esb_tree.specs.declared.statements.IfClause.{IfClause, out-IfClause, out-roll-IfClause}
use Rattle.esb_tree.specs.declared.statements.Statement.{Statement}
use Rattle.esb_tree.specs.Levels.{most, depth_of_expression, depth_of_statement, depth_of_if_clause, depth_of_else_if, depth_of_else}
use Rattle.esb_tree.specs.Trees.{written}
use Rattle.esb_tree.specs.Yields.{tokens_of_statement, tokens_of_if_clause, tokens_of_else_if, tokens_of_else}
use Rattle.esb_tree.proofs.TokenLines.{tokens_IfClause, tokens_ElseIf, tokens_NoElse, tokens_Otherwise, tokens_If}
use Rattle.esb_tree.proofs.LevelLines.{levels_IfClause, levels_ElseIf, levels_NoElse, levels_Otherwise, levels_If}
use Rattle.esb_grammar.specs.declared.context.Context.{Context}
use Rattle.esb_grammar.specs.Contexts.{inside}
use Rattle.esb_grammar.specs.Edges.{takes_else, else_takes_else, is_if}
use Rattle.esb_grammar.specs.Forms.{is_empty}
use Rattle.esb_grammar.specs.Grammar.{IsExpression, IsStatement, IsItem, IsIfClause, if_clause, AreElseIfs, no_else_ifs, else_if, IsElse, no_else, otherwise, has_else, else_layer, if_statement}
use Rattle.esb_grammar.proofs.EdgeLines.{takes_If, takes_NoElse, takes_Otherwise}
use Rattle.esb_reader.specs.declared.node.Node.{Node}
use Rattle.esb_reader.specs.Kinds.{agrees}
use Rattle.esb_reader.specs.Places.{Text}
use Rattle.esb_reader.specs.Reader.{Reader, and_then, pure, choose, node, none, repeated}
use Rattle.esb_reader.specs.Parts.{behind, both, token, made, empty}
use Rattle.esb_reader.specs.Stands.{Syntax, Stands, Rule, Made, pairs, row, tokens, which}
use Rattle.esb_reader.proofs.Moves.{tokens-move}
use Rattle.esb_reading_laws.proofs.Composed.{plain_rule, above_rule, choice_rule, empty_rule}
use Rattle.esb_reading_laws.proofs.Steps.{then_some, some_is, then_goes, if_goes, if_not, spelled_split, spelled_join}
use Rattle.esb_statement_laws.specs.Sequels.{RuleAt, Keeps, at_place, linked}
use Rattle.esb_statement_laws.specs.Marks.{is_else, is_if_word, never_follows, ends_items, nearest, stops_before, statement_stops}
use Rattle.esb_statement_laws.specs.Handed.{Handed, statements, ReadsExpressions, ReadsStatements}
use Rattle.esb_statement_laws.specs.Statements as read
use Rattle.esb_statement_laws.specs.Statements.{make_if_clause, make_else_if, make_otherwise, make_if, else_if_at}
use Rattle.esb_statement_laws.proofs.Followed.{leading, sees, at_place_rule, kept_rule}
use Rattle.esb_statement_laws.proofs.EndingsRead.{ends_at}
use Rattle.esb_statement_laws.proofs.Kept.{keeps_both, keeps_made, keeps_above, keeps_same, keeps_choose, keeps_fail}
use Rattle.esb_statement_laws.proofs.Bodies.{Headed, headed_rule, kept_of}
use Rattle.esb_statement_laws.proofs.Small.{and_of, first_of, of_not, zero_max}

not_first : (a b : Bool) → a ≡ false → (a && b) ≡ false
not_first false b h = refl
not_first true b h = cc

not_second : (a b : Bool) → b ≡ false → (a && b) ≡ false
not_second false b h = refl
not_second true b h = h

not_of : (b : Bool) → b ≡ false → not b ≡ true
not_of false h = refl
not_of true h = cc

turned : (a b : Bool) → (a && b) ≡ false → (b && a) ≡ false
turned true b h = and_true b h
  where
    and_true : (b : Bool) → b ≡ false → (b && true) ≡ false
    and_true false h = refl
    and_true true h = cc
turned false true h = refl
turned false false h = refl

else_is : (kind : Kind) → is_else kind ≡ true → kind ≡ k.Else
else_is k.Else h = refl
else_is _ h = cc

else_may_follow : (kind : Kind) → kind ≡ k.Else → never_follows kind ≡ false
else_may_follow kind e = ap never_follows e

has_NoElse : has_else ot.NoElse ≡ false
unfolding has_else
has_NoElse = ap else_layer (ap out-Else (sym ot.rolls-NoElse) ∙ out-roll-Else (Else-F.NoElse))

has_Otherwise : (word : Token) (body : Statement) → has_else (ot.Otherwise word body) ≡ true
unfolding has_else
has_Otherwise word body = ap else_layer (ap out-Else (sym (ot.rolls-Otherwise word body)) ∙ out-roll-Else (Else-F.Otherwise word body))

module _ (text : Text) (c : Context) (n : ℕ) (r : Handed) (values : ReadsExpressions text (IsExpression text (inside c)) n (r.expression true (inside c)))
    (bodies : ReadsStatements text (IsStatement text c) n (r.statement c)) (lists : Rule text (row (statements (IsItem text c))) n n (λ _ t. ends_items t.kind) (r.items c))
    (first_if : (x : Statement) (i j : ℕ) → IsStatement text c x → SpelledBetween text i (tokens_of_statement written x) j → is_if_word (behind text i).kind ≡ is_if x) where
  abbrev Body : Syntax Statement
  Body = statements (IsStatement text c)

  -- whether an `else` is seen at a place
  abbrev e : ℕ → Bool
  e m = is_else (behind text m).kind

  -- ---- `if`, an expression in parentheses and a statement

  abbrev ClauseParts : Syntax (Token × (Token × (Expression × (Token × Statement))))
  ClauseParts = pairs (tokens k.If) (Headed text c n r values bodies lists Body)

  abbrev clauses : (IfClause → Type 0) → Syntax IfClause
  clauses Good = record { yields = tokens_of_if_clause written; levels_of = depth_of_if_clause; Good = Good }

  abbrev IsClause : IfClause → Type 0
  IsClause = Made ClauseParts make_if_clause

  abbrev body_of : IfClause → Statement
  body_of x = (out-IfClause x).body

  body_is : (p : Token × (Token × (Expression × (Token × Statement)))) → body_of (make_if_clause p) ≡ p.1.1.1.1
  body_is p = ap (λ o. o.body) (out-roll-IfClause (record { word = p.0; begin = p.1.0; condition = p.1.1.0; ending = p.1.1.1.0; body = p.1.1.1.1 }))

  abbrev clause_stops : IfClause → Token → Bool
  clause_stops x t = statement_stops (body_of x) t

  abbrev clause_kept : IfClause → Token → Bool
  clause_kept x t = nearest (takes_else (body_of x)) t

  clause_levels : (x b : ℕ) → max x b ≡ max 0 (max 0 (max x (max 0 b)))
  clause_levels x b = omega arith

  clause_rule : Rule text (clauses IsClause) n n clause_stops (read.if_clause text c n r)
  unfolding read.if_clause
  clause_rule =
      plain_rule text ClauseParts (tokens_of_if_clause written) depth_of_if_clause n n (λ p. statement_stops p.1.1.1.1) clause_stops make_if_clause (both (token text k.If) (read.headed text c n r (r.statement c)))
      (leading text (Headed text c n r values bodies lists Body) n n k.If (λ q. statement_stops q.1.1.1) (read.headed text c n r (r.statement c)) refl (headed_rule text c n r values bodies lists Body statement_stops (r.statement c) bodies.rule))
      (λ p. tokens_IfClause written p.0 p.1.0 p.1.1.0 p.1.1.1.0 p.1.1.1.1) (λ p. levels_IfClause p.0 p.1.0 p.1.1.0 p.1.1.1.0 p.1.1.1.1 ∙ clause_levels (depth_of_expression p.1.1.0) (depth_of_statement p.1.1.1.1))
      (λ p t h. ap (λ x. statement_stops x t) (sym (body_is p)) ∙ h)

  clause_keeps : Keeps text clause_kept (read.if_clause text c n r)
  unfolding read.if_clause
  clause_keeps =
      keeps_made text clause_kept make_if_clause 0 (both (token text k.If) (read.headed text c n r (r.statement c)))
      (keeps_same text (λ p. nearest (takes_else p.1.1.1.1)) (λ p. clause_kept (make_if_clause p)) (both (token text k.If) (read.headed text c n r (r.statement c)))
      (λ p t h. ap (λ x. nearest (takes_else x) t) (body_is p) ∙ h)
      (keeps_both text (λ q. nearest (takes_else q.1.1.1)) (token text k.If) (read.headed text c n r (r.statement c))
      (keeps_both text (λ q. nearest (takes_else q.1.1)) (token text k.LeftParenthesis) (both (r.expression true (inside c)) (both (token text k.RightParenthesis) (r.statement c)))
      (keeps_both text (λ q. nearest (takes_else q.1)) (r.expression true (inside c)) (both (token text k.RightParenthesis) (r.statement c))
      (keeps_both text (λ x. nearest (takes_else x)) (token text k.RightParenthesis) (r.statement c) bodies.keeps)))))

  -- a clause that an `else` follows, or none
  abbrev IsFirm : Bool → IfClause → Type 0
  IsFirm followed x = followed && takes_else (body_of x) ≡ false

  firm_clause : (followed : Bool) (x : IfClause) → IsClause x → IsFirm followed x → IsIfClause text followed c x
  firm_clause followed x h firm =
      let p = h.0 in
      let same : body_of x ≡ p.1.1.1.1 = ap body_of h.1 ∙ body_is p in
      subst (IsIfClause text followed c) (sym h.1) (if_clause h.2.0 h.2.1.0 h.2.1.1.0 h.2.1.1.1.0 h.2.1.1.1.1 (ap (λ b. followed && takes_else b) (sym same) ∙ firm))

  clause_firm : (followed : Bool) (x : IfClause) → IsIfClause text followed c x → IsClause x × IsFirm followed x
  clause_firm followed x (if_clause {word = w} {begin = b} {condition = v} {ending = t} {body = y} h1 h2 h3 h4 h5 h6) =
      ((((w, (b, (v, (t, y))))), refl, (h1, (h2, (h3, (h4, h5))))), ap (λ z. followed && takes_else z) (body_is (w, (b, (v, (t, y))))) ∙ h6)

  -- ---- `else if`

  abbrev elses : (ElseIf → Type 0) → Syntax ElseIf
  elses Good = record { yields = tokens_of_else_if written; levels_of = depth_of_else_if; Good = Good }

  abbrev IsElseIf : ElseIf → Type 0
  IsElseIf = Made (pairs (tokens k.Else) (clauses IsClause)) make_else_if

  abbrev clause_of : ElseIf → IfClause
  clause_of y = (out-ElseIf y).clause

  clause_is : (p : Token × IfClause) → clause_of (make_else_if p) ≡ p.1
  clause_is p = ap (λ o. o.clause) (out-roll-ElseIf (record { else_word = p.0; clause = p.1 }))

  abbrev else_if_stops : ElseIf → Token → Bool
  else_if_stops y t = clause_stops (clause_of y) t

  else_if_rule : Rule text (elses IsElseIf) n n else_if_stops (read.else_if text c n r)
  unfolding read.else_if
  else_if_rule =
      plain_rule text (pairs (tokens k.Else) (clauses IsClause)) (tokens_of_else_if written) depth_of_else_if n n (λ p. clause_stops p.1) else_if_stops make_else_if (both (token text k.Else) (read.if_clause text c n r))
      (leading text (clauses IsClause) n n k.Else clause_stops (read.if_clause text c n r) refl clause_rule)
      (λ p. tokens_ElseIf written p.0 p.1) (λ p. levels_ElseIf p.0 p.1 ∙ zero_max (depth_of_if_clause p.1)) (λ p t h. ap (λ x. clause_stops x t) (sym (clause_is p)) ∙ h)

  else_if_keeps : Keeps text (λ y. clause_kept (clause_of y)) (read.else_if text c n r)
  unfolding read.else_if
  else_if_keeps =
      keeps_made text (λ y. clause_kept (clause_of y)) make_else_if 0 (both (token text k.Else) (read.if_clause text c n r))
      (keeps_same text (λ p. clause_kept p.1) (λ p. clause_kept (clause_of (make_else_if p))) (both (token text k.Else) (read.if_clause text c n r)) (λ p t h. ap (λ x. clause_kept x t) (clause_is p) ∙ h)
      (keeps_both text clause_kept (token text k.Else) (read.if_clause text c n r) clause_keeps))

  -- clauses that `else if`s or a last `else` follow, as the flag says
  abbrev AllFirm : Bool → List ElseIf → Type 0
  AllFirm f [] = Unit {0}
  AllFirm f (y ∷ ys) = (IsElseIf y × IsFirm (not (is_empty ys) || f) (clause_of y)) × AllFirm f ys

  are_else_ifs : (f : Bool) (ys : List ElseIf) → AllFirm f ys → AreElseIfs text f c ys
  are_else_ifs f [] h = no_else_ifs
  are_else_ifs f (y ∷ ys) h =
      let p = h.0.0.0 in
      let is = h.0.0.1 in
      let same : clause_of y ≡ p.1 = ap clause_of is ∙ clause_is p in
      let firm : IsFirm (not (is_empty ys) || f) p.1 = subst (IsFirm (not (is_empty ys) || f)) same h.0.1 in
      subst (λ z. AreElseIfs text f c (z ∷ ys)) (sym is) (else_if p.0 p.1 ys h.0.0.2.0 (firm_clause (not (is_empty ys) || f) p.1 h.0.0.2.1 firm) (are_else_ifs f ys h.1))

  all_firm : (f : Bool) (ys : List ElseIf) → AreElseIfs text f c ys → AllFirm f ys
  all_firm f [] h = tt
  all_firm f (y ∷ ys) (else_if word clause rest h1 h2 h3) =
      let here = clause_firm (not (is_empty ys) || f) clause h2 in
      ((((word, clause), refl, (h1, here.0)), subst (IsFirm (not (is_empty ys) || f)) (sym (clause_is (word, clause))) here.1), all_firm f ys h3)

  spelled_else_if : (y : ElseIf) (i j : ℕ) (good : IsElseIf y) → SpelledBetween text i (tokens_of_else_if written y) j → SpelledBetween text i (good.0.0 ∷ tokens_of_if_clause written good.0.1) j
  spelled_else_if y i j good h = subst (λ ts. SpelledBetween text i ts j) (ap (tokens_of_else_if written) good.1 ∙ tokens_ElseIf written good.0.0 good.0.1) h

  spelled_clause : (x : IfClause) (i j : ℕ) (good : IsClause x) → SpelledBetween text i (tokens_of_if_clause written x) j → SpelledBetween text i (ClauseParts.yields good.0) j
  spelled_clause x i j good h = subst (λ ts. SpelledBetween text i ts j) (ap (tokens_of_if_clause written) good.1 ∙ tokens_IfClause written good.0.0 good.0.1.0 good.0.1.1.0 good.0.1.1.1.0 good.0.1.1.1.1) h

  else_seen : (y : ElseIf) (i j : ℕ) → IsElseIf y → SpelledBetween text i (tokens_of_else_if written y) j → (behind text i).kind ≡ k.Else
  else_seen y i j good h =
      let t = good.0.0 in
      ap (λ (u : Token). u.kind) (sees text i t _ j (spelled_else_if y i j good h) (ap (agrees goal.Div) good.2.0)) ∙ good.2.0

  else_if_seen : (y : ElseIf) (i j : ℕ) → IsElseIf y → SpelledBetween text i (tokens_of_else_if written y) j → else_if_at text i ≡ true
  else_if_seen y i j good h =
      let t = good.0.0 in
      let spelled = spelled_else_if y i j good h in
      let here : behind text i ≡ t = sees text i t _ j spelled (ap (agrees goal.Div) good.2.0) in
      let clause = spelled_clause good.0.1 t.end j good.2.1 spelled.2 in
      let w = good.2.1.0.0 in
      let there : behind text t.end ≡ w = sees text t.end w ((Headed text c n r values bodies lists Body).yields good.2.1.0.1) j clause (ap (agrees goal.Div) good.2.1.2.0) in
      and_of _ _ (ap is_else (else_seen y i j good h)) (ap (λ (u : Token). is_if_word (behind text u.end).kind) here ∙ ap (λ (u : Token). is_if_word u.kind) there ∙ ap is_if_word good.2.1.2.0)

  -- ---- backwards

  -- what was read behind those found: an `else` is seen at its begin where one follows
  record More (found all : Node (List ElseIf)) (i j : ℕ) : Type 0 where
    xs : Node (List ElseIf)
    tree : all.tree ≡ found.tree ++ xs.tree
    levels : all.levels ≡ max found.levels xs.levels
    good : AllFirm (e j) xs.tree
    deep : most (map depth_of_else_if xs.tree) ≡ xs.levels
    fits : xs.levels ≤ n
    spelled : SpelledBetween text i (flat_map (tokens_of_else_if written) xs.tree) j
    flag : (not (is_empty xs.tree) || e j) ≡ e i

  nothing_more : (found all : Node (List ElseIf)) (i j : ℕ) → pure found i ≡ Some (all, j) → More found all i j
  nothing_more found all i j h =
      let same = some_is _ _ h in
      record {
        xs = none;
        tree = sym (ap (λ p. p.0.tree) same) ∙ sym (append-nil found.tree);
        levels = sym (ap (λ p. p.0.levels) same) ∙ omega arith;
        good = tt;
        deep = refl;
        fits = omega arith;
        spelled = ap (λ p. p.1) same;
        flag = ap e (sym (ap (λ p. p.1) same));
      }

  firm_seen : (takes a b : Bool) → not (takes && b) ≡ true → a ≡ b → (a && takes) ≡ false
  firm_seen takes a b h same = turned takes a (ap (λ z. takes && z) same ∙ of_not _ h)

  one_more : (found all : Node (List ElseIf)) (x : Node ElseIf) (i m j : ℕ) → else_if_at text i ≡ true → Stands text (elses IsElseIf) n x i m → clause_kept (clause_of x.tree) (behind text m) ≡ true
      → More (node (found.tree ++ x.tree ∷ []) (max found.levels x.levels)) all m j → More found all i j
  one_more found all x i m j test here kept more =
      record {
        xs = node (x.tree ∷ more.xs.tree) (max x.levels more.xs.levels);
        tree = more.tree ∙ append_assoc found.tree (x.tree ∷ []) more.xs.tree;
        levels = let l = more.levels in omega arith;
        good = ((here.good, firm_seen (takes_else (body_of (clause_of x.tree))) (not (is_empty more.xs.tree) || e j) (e m) kept more.flag), more.good);
        deep = ap (λ l. max l (most (map depth_of_else_if more.xs.tree))) here.levels ∙ ap (λ l. max x.levels l) more.deep;
        fits = let a = here.fits in let b = more.fits in omega arith;
        spelled = spelled_join text i (tokens_of_else_if written x.tree) _ m j here.spelled more.spelled;
        flag = sym (first_of _ _ test);
      }

  else_ifs_some : (turns : ℕ) (found all : Node (List ElseIf)) (i j : ℕ) → repeated (else_if_at text) (read.else_if text c n r) turns found i ≡ Some (all, j) → More found all i j
  unfolding repeated
  else_ifs_some zero found all i j h = nothing_more found all i j h
  else_ifs_some (suc turns) found all i j h = by_test (else_if_at text i) refl (else_ifs_some turns) h
    where
      by_test : (b : Bool) → else_if_at text i ≡ b → ((f a : Node (List ElseIf)) (p q : ℕ) → repeated (else_if_at text) (read.else_if text c n r) turns f p ≡ Some (a, q) → More f a p q)
          → cond b (and_then (read.else_if text c n r i) (λ x. repeated (else_if_at text) (read.else_if text c n r) turns (node (found.tree ++ x.tree ∷ []) (max found.levels x.levels)))) (Some (found, i)) ≡ Some (all, j) → More found all i j
      by_test false test again h = nothing_more found all i j h
      by_test true test again h =
          let first = then_some (read.else_if text c n r i) _ (all, j) h in
          one_more found all first.0.0 i first.0.1 j test (else_if_rule.sound i first.0.0 first.0.1 first.1) (else_if_keeps i first.0.0 first.0.1 first.1) (again _ all first.0.1 j first.2)

  -- ---- forwards

  next_seen : (f : Bool) (ys : List ElseIf) (m j : ℕ) → AllFirm f ys → SpelledBetween text m (flat_map (tokens_of_else_if written) ys) j → e j ≡ f → never_follows (behind text j).kind ≡ false
      → (never_follows (behind text m).kind ≡ false) × ((not (is_empty ys) || f) ≡ e m)
  next_seen f [] m j good h seen other = let here : m ≡ j = h in (ap (λ i. never_follows (behind text i).kind) here ∙ other, sym seen ∙ ap e (sym here))
  next_seen f (y ∷ ys) m j good h seen other =
      let cut = spelled_split text m (tokens_of_else_if written y) (flat_map (tokens_of_else_if written) ys) j h in
      let kind = else_seen y m cut.0 good.0.0 cut.1 in
      (ap never_follows kind, sym (ap is_else kind))

  stops_there : (takes : Bool) (t : Token) (f : Bool) → never_follows t.kind ≡ false → f ≡ is_else t.kind → (f && takes) ≡ false → stops_before takes t ≡ true
  stops_there takes t f other same firm = and_of _ _ (not_of _ other) (not_of _ (turned (is_else t.kind) takes (ap (λ z. z && takes) (sym same) ∙ firm)))

  ended : (found : Node (List ElseIf)) (tree : List ElseIf) (levels i j : ℕ) → found.tree ≡ tree → found.levels ≡ levels → i ≡ j → pure found i ≡ Some (node tree levels, j)
  ended found tree levels i j a b d = ap (λ t. Some (node t found.levels, i)) a ∙ ap (λ l. Some (node tree l, i)) b ∙ ap (λ z. Some (node tree levels, z)) d

  else_ifs_go : (f : Bool) (ys : List ElseIf) (turns : ℕ) (found : Node (List ElseIf)) (i j : ℕ) → AllFirm f ys → most (map depth_of_else_if ys) < n → SpelledBetween text i (flat_map (tokens_of_else_if written) ys) j → length ys ≤ turns
      → e j ≡ f → never_follows (behind text j).kind ≡ false → else_if_at text j ≡ false
      → repeated (else_if_at text) (read.else_if text c n r) turns found i ≡ Some (node (found.tree ++ ys) (max found.levels (most (map depth_of_else_if ys))), j)
  unfolding repeated
  else_ifs_go f [] zero found i j good low h enough seen other last = ended found _ _ i j (sym (append-nil found.tree)) (omega arith) h
  else_ifs_go f [] (suc turns) found i j good low h enough seen other last =
      if_not _ _ _ (ap (else_if_at text) h ∙ last) ∙ ended found _ _ i j (sym (append-nil found.tree)) (omega arith) h
  else_ifs_go f (y ∷ ys) zero found i j good low h enough seen other last = absurd (omega arith)
  else_ifs_go f (y ∷ ys) (suc turns) found i j good low h enough seen other last =
      let cut = spelled_split text i (tokens_of_else_if written y) (flat_map (tokens_of_else_if written) ys) j h in
      let m = cut.0 in
      let one = node y (depth_of_else_if y) in
      let stands : Stands text (elses IsElseIf) n one i m = record { good = good.0.0; levels = refl; fits = omega arith; spelled = cut.1 } in
      let there = next_seen f ys m j good.1 cut.2 seen other in
      let read = else_if_rule.complete i one m stands (omega arith) (stops_there (takes_else (body_of (clause_of y))) (behind text m) (not (is_empty ys) || f) there.0 there.1 good.0.1) in
      let rest = else_ifs_go f ys turns (node (found.tree ++ y ∷ []) (max found.levels (depth_of_else_if y))) m j good.1 (omega arith) cut.2 (omega arith) seen other last in
      let regrouped = ended (node ((found.tree ++ y ∷ []) ++ ys) (max (max found.levels (depth_of_else_if y)) (most (map depth_of_else_if ys)))) _ _ j j (append_assoc found.tree (y ∷ []) ys) (omega arith) refl in
      if_goes _ _ _ (else_if_seen y i m good.0.0 cut.1) ∙ then_goes _ _ one m read ∙ rest ∙ regrouped

  -- ---- the last `else`

  abbrev lasts : (Else → Type 0) → Syntax Else
  lasts Good = record { yields = tokens_of_else written; levels_of = depth_of_else; Good = Good }

  abbrev NoIf : Syntax Statement
  NoIf = which Body (λ x. IsStatement text c x × (is_if x ≡ false))

  abbrev no_if_at : ℕ → Bool
  no_if_at i = not (is_if_word (behind text i).kind)

  abbrev branch : Reader (Node Statement)
  branch = at_place no_if_at (r.statement c)

  branch_rule : Rule text NoIf n n statement_stops branch
  branch_rule =
      at_place_rule text Body (λ x. is_if x ≡ false) n n statement_stops no_if_at (r.statement c) bodies.rule
      (λ x i j good h other. not_of _ (first_if x i j good h ∙ other)) (λ x i j good h seen. sym (first_if x i j good h) ∙ of_not _ seen)

  abbrev IsOtherwise : Else → Type 0
  IsOtherwise = Made (pairs (tokens k.Else) NoIf) make_otherwise

  abbrev IsLast : Else → Type 0
  IsLast y = IsOtherwise y ⊎ (y ≡ ot.NoElse)

  abbrev last_stops : Else → Token → Bool
  last_stops y t = stops_before (else_takes_else y) t

  otherwise_rule : Rule text (lasts IsOtherwise) n n last_stops (made make_otherwise 0 (both (token text k.Else) branch))
  otherwise_rule =
      plain_rule text (pairs (tokens k.Else) NoIf) (tokens_of_else written) depth_of_else n n (λ p. statement_stops p.1) last_stops make_otherwise (both (token text k.Else) branch)
      (leading text NoIf n n k.Else statement_stops branch refl branch_rule)
      (λ p. tokens_Otherwise written p.0 p.1) (λ p. levels_Otherwise p.0 p.1 ∙ zero_max (depth_of_statement p.1)) (λ p t h. ap (λ b. stops_before b t) (sym (takes_Otherwise p.0 p.1)) ∙ h)

  nothing_rule : Rule text (lasts (λ y. y ≡ ot.NoElse)) n n last_stops (empty ot.NoElse)
  nothing_rule = empty_rule text (tokens_of_else written) depth_of_else n n last_stops ot.NoElse (tokens_NoElse written) levels_NoElse

  spelled_otherwise : (y : Else) (i j : ℕ) (good : IsOtherwise y) → SpelledBetween text i (tokens_of_else written y) j → SpelledBetween text i (good.0.0 ∷ tokens_of_statement written good.0.1) j
  spelled_otherwise y i j good h = subst (λ ts. SpelledBetween text i ts j) (ap (tokens_of_else written) good.1 ∙ tokens_Otherwise written good.0.0 good.0.1) h

  otherwise_seen : (y : Else) (i j : ℕ) (good : IsOtherwise y) → SpelledBetween text i (tokens_of_else written y) j → behind text i ≡ good.0.0
  otherwise_seen y i j good h = sees text i good.0.0 _ j (spelled_otherwise y i j good h) (ap (agrees goal.Div) good.2.0)

  nothing_here : (y : Else) (i j : ℕ) → y ≡ ot.NoElse → SpelledBetween text i (tokens_of_else written y) j → i ≡ j
  nothing_here y i j is h = subst (λ ts. SpelledBetween text i ts j) (ap (tokens_of_else written) is ∙ tokens_NoElse written) h

  -- nothing ends before `else` and `:`
  nothing_stops : (y : Else) (t : Token) → y ≡ ot.NoElse → last_stops y t ≡ true → (never_follows t.kind ≡ false) × (is_else t.kind ≡ false)
  nothing_stops y t is h = by_cases (never_follows t.kind) (is_else t.kind) (ap (λ b. stops_before b t) (sym takes_NoElse ∙ sym (ap else_takes_else is)) ∙ h)
    where
      by_cases : (a b : Bool) → (not a && not (true && b)) ≡ true → (a ≡ false) × (b ≡ false)
      by_cases false false h = (refl, refl)
      by_cases true b h = cc
      by_cases false true h = cc

  -- what is seen where a last `else`, or none, stands
  record LastSeen (y : Else) (i : ℕ) : Type 0 where
    here : e i ≡ has_else y
    other : never_follows (behind text i).kind ≡ false
    no_if : else_if_at text i ≡ false

  last_seen : (y : Else) (i j : ℕ) → IsLast y → SpelledBetween text i (tokens_of_else written y) j → last_stops y (behind text j) ≡ true → LastSeen y i
  last_seen y i j (inl good) h stop =
      let same = otherwise_seen y i j good h in
      let kind = ap (λ (u : Token). u.kind) same ∙ good.2.0 in
      let next = (spelled_otherwise y i j good h).2 in
      record {
        here = ap is_else kind ∙ sym (ap has_else good.1 ∙ has_Otherwise good.0.0 good.0.1);
        other = ap never_follows kind;
        no_if = not_second _ _ (ap (λ (u : Token). is_if_word (behind text u.end).kind) same ∙ first_if good.0.1 good.0.0.end j good.2.1.0 next ∙ good.2.1.1);
      }
  last_seen y i j (inr is) h stop =
      let same = nothing_here y i j is h in
      let ends = nothing_stops y (behind text j) is stop in
      let none_here : e i ≡ false = ap e same ∙ ends.1 in
      record {
        here = none_here ∙ sym (ap has_else is ∙ has_NoElse);
        other = ap (λ m. never_follows (behind text m).kind) same ∙ ends.0;
        no_if = not_first _ _ none_here;
      }

  last_rule : Rule text (lasts IsLast) n n last_stops (read.last_else text c n r)
  unfolding read.last_else
  last_rule =
      choice_rule text (lasts IsLast) IsOtherwise (λ y. y ≡ ot.NoElse) n n last_stops (λ t. is_else t.kind) (made make_otherwise 0 (both (token text k.Else) branch)) (empty ot.NoElse) otherwise_rule nothing_rule
      (λ y i j good h. ap (λ (u : Token). is_else u.kind) (otherwise_seen y i j good h) ∙ ap is_else good.2.0)
      (λ y i j is h stop. ap e (nothing_here y i j is h) ∙ (nothing_stops y (behind text j) is stop).1)

  -- an `else` is seen exactly where one was read
  last_flag : (i : ℕ) (y : Node Else) (j : ℕ) → read.last_else text c n r i ≡ Some (y, j) → e i ≡ has_else y.tree
  unfolding read.last_else
  last_flag i y j h = by_test (e i) refl h
    where
      by_test : (b : Bool) → e i ≡ b → choose b (made make_otherwise 0 (both (token text k.Else) branch)) (empty ot.NoElse) i ≡ Some (y, j) → e i ≡ has_else y.tree
      by_test true seen g = let s = otherwise_rule.sound i y j g in seen ∙ sym (ap has_else s.good.1 ∙ has_Otherwise s.good.0.0 s.good.0.1)
      by_test false seen g = let s = nothing_rule.sound i y j g in seen ∙ sym (ap has_else s.good ∙ has_NoElse)

  -- ---- what follows the first clause

  abbrev is_firm_here : IfClause → List ElseIf × Else → Type 0
  is_firm_here a p = IsFirm (not (is_empty p.0) || has_else p.1) a

  abbrev Tails : IfClause → Syntax (List ElseIf × Else)
  Tails a = record {
    yields = λ p. flat_map (tokens_of_else_if written) p.0 ++ tokens_of_else written p.1;
    levels_of = λ p. max (most (map depth_of_else_if p.0)) (depth_of_else p.1);
    Good = λ p. AllFirm (has_else p.1) p.0 × IsLast p.1 × is_firm_here a p;
  }

  abbrev tail_stops : List ElseIf × Else → Token → Bool
  tail_stops p t = last_stops p.1 t

  abbrev tail : Reader (Node (List ElseIf × Else))
  tail = both (read.else_ifs text c n r) (read.last_else text c n r)

  else_ifs_more : (m : ℕ) (x : Node (List ElseIf)) (j : ℕ) → read.else_ifs text c n r m ≡ Some (x, j) → More none x m j
  unfolding read.else_ifs
  else_ifs_more m x j h = else_ifs_some (length text) none x m j h

  tail_some : (a : IfClause) (m : ℕ) → clause_kept a (behind text m) ≡ true → (x : Node (List ElseIf × Else)) (j : ℕ) → tail m ≡ Some (x, j) → Stands text (Tails a) n x m j
  tail_some a m kept x j h =
      let one = then_some (read.else_ifs text c n r m) _ (x, j) h in
      let two = then_some (read.last_else text c n r one.0.1) _ (x, j) one.2 in
      let more = else_ifs_more m one.0.0 one.0.1 one.1 in
      let last = last_rule.sound one.0.1 two.0.0 two.0.1 two.1 in
      let flag = last_flag one.0.1 two.0.0 two.0.1 two.1 in
      let tree : one.0.0.tree ≡ more.xs.tree = more.tree in
      let levels : one.0.0.levels ≡ more.xs.levels = let l = more.levels in omega arith in
      let seen : (not (is_empty more.xs.tree) || has_else two.0.0.tree) ≡ e m = ap (λ b. not (is_empty more.xs.tree) || b) (sym flag) ∙ more.flag in
      let firm : is_firm_here a (more.xs.tree, two.0.0.tree) = firm_seen (takes_else (body_of a)) (not (is_empty more.xs.tree) || has_else two.0.0.tree) (e m) kept seen in
      subst (λ z. Stands text (Tails a) n z.0 m z.1) (ap (λ ys. (node (ys, two.0.0.tree) (max one.0.0.levels two.0.0.levels), two.0.1)) (sym tree) ∙ some_is _ _ two.2)
      (record {
        good = (subst (λ f. AllFirm f more.xs.tree) flag more.good, last.good, firm);
        levels = ap (λ l. max l (depth_of_else two.0.0.tree)) (more.deep ∙ sym levels) ∙ ap (λ l. max one.0.0.levels l) last.levels;
        fits = let u = more.fits in let v = last.fits in omega (arith, u, v, levels);
        spelled = spelled_join text m (flat_map (tokens_of_else_if written) more.xs.tree) (tokens_of_else written two.0.0.tree) one.0.1 two.0.1 more.spelled last.spelled;
      })

  -- each `else if` has a token or more
  some_tokens : (f : Bool) (ys : List ElseIf) → AllFirm f ys → length ys ≤ length (flat_map (tokens_of_else_if written) ys)
  some_tokens f [] good = omega arith
  some_tokens f (y ∷ ys) good =
      let rest = some_tokens f ys good.1 in
      let p = good.0.0.0 in
      let all = length-append (tokens_of_else_if written y) (flat_map (tokens_of_else_if written) ys) in
      let own : length (tokens_of_else_if written y) ≡ suc (length (tokens_of_if_clause written p.1)) = ap (λ z. length (tokens_of_else_if written z)) good.0.0.1 ∙ ap length (tokens_ElseIf written p.0 p.1) in
      omega (arith, rest, all, own)

  few : (f : Bool) (ys : List ElseIf) (m o : ℕ) → AllFirm f ys → SpelledBetween text m (flat_map (tokens_of_else_if written) ys) o → m ≤ length text → length ys ≤ length text
  few f ys m o good h within =
      let count = some_tokens f ys good in
      let moved = tokens-move text m (flat_map (tokens_of_else_if written) ys) o h in
      let far = moved.0 in
      let near = moved.1 within in
      omega (arith, count, far, near)

  else_ifs_read : (f : Bool) (ys : List ElseIf) (m o : ℕ) → AllFirm f ys → most (map depth_of_else_if ys) < n → SpelledBetween text m (flat_map (tokens_of_else_if written) ys) o → m ≤ length text
      → e o ≡ f → never_follows (behind text o).kind ≡ false → else_if_at text o ≡ false → read.else_ifs text c n r m ≡ Some (node ys (max 0 (most (map depth_of_else_if ys))), o)
  unfolding read.else_ifs
  else_ifs_read f ys m o good low h within seen other last = else_ifs_go f ys (length text) none m o good low h (few f ys m o good h within) seen other last

  tail_goes : (a : IfClause) (m : ℕ) → m ≤ length text → (x : Node (List ElseIf × Else)) (j : ℕ) → Stands text (Tails a) n x m j → x.levels < n → tail_stops x.tree (behind text j) ≡ true → tail m ≡ Some (x, j)
  tail_goes a m within x j s low stop =
      let ys = x.tree.0 in
      let y = x.tree.1 in
      let cut = spelled_split text m (flat_map (tokens_of_else_if written) ys) (tokens_of_else written y) j s.spelled in
      let o = cut.0 in
      let seen = last_seen y o j s.good.1 cut.2 stop in
      let deep = s.levels in
      let v = node y (depth_of_else y) in
      let last : Stands text (lasts IsLast) n v o j = record { good = s.good.1; levels = refl; fits = omega (arith, deep, low); spelled = cut.2 } in
      then_goes _ _ (node ys (max 0 (most (map depth_of_else_if ys)))) o (else_ifs_read (has_else y) ys m o s.good.0 (omega (arith, deep, low)) cut.1 within seen.here seen.other seen.no_if)
      ∙ then_goes _ _ v j (last_rule.complete o v j last (omega (arith, deep, low)) stop)
      ∙ ap (λ l. Some (node x.tree l, j)) (let same : max (max 0 (most (map depth_of_else_if ys))) (depth_of_else y) ≡ x.levels = omega (arith, deep) in same)

  clause_within : (a : IfClause) (i m : ℕ) → IsClause a → SpelledBetween text i (tokens_of_if_clause written a) m → m ≤ length text
  clause_within a i m good h = (ends_at text i good.0.0 ((Headed text c n r values bodies lists Body).yields good.0.1) m (spelled_clause a i m good h)).1

  tail_at : (a : IfClause) (i m : ℕ) → IsClause a → SpelledBetween text i (tokens_of_if_clause written a) m → clause_kept a (behind text m) ≡ true → RuleAt text (Tails a) n n tail_stops tail m
  tail_at a i m good h kept = record { sound = tail_some a m kept; complete = tail_goes a m (clause_within a i m good h) }

  clause_ends : (a : IfClause) (p : List ElseIf × Else) (i m j : ℕ) → IsClause a → (Tails a).Good p → SpelledBetween text i (tokens_of_if_clause written a) m → SpelledBetween text m ((Tails a).yields p) j → last_stops p.1 (behind text j) ≡ true → clause_stops a (behind text m) ≡ true
  clause_ends a p i m j ga gp here there stop =
      let cut = spelled_split text m (flat_map (tokens_of_else_if written) p.0) (tokens_of_else written p.1) j there in
      let seen = last_seen p.1 cut.0 j gp.1 cut.2 stop in
      let next = next_seen (has_else p.1) p.0 m cut.0 gp.0 cut.1 seen.here seen.other in
      stops_there (takes_else (body_of a)) (behind text m) (not (is_empty p.0) || has_else p.1) next.0 next.1 gp.2

  -- ---- IfStatement

  abbrev pub IfParts : Syntax (IfClause × (List ElseIf × Else))
  IfParts = linked (clauses IsClause) Tails

  pub if_rule : Rule text (statements (Made IfParts make_if)) n (suc n) statement_stops (read.if_statement text c n r)
  unfolding read.if_statement
  if_rule =
      above_rule text IfParts (tokens_of_statement written) depth_of_statement n n (λ p. tail_stops p.1) statement_stops make_if (both (read.if_clause text c n r) tail)
      (kept_rule text (clauses IsClause) Tails n n clause_kept clause_stops (λ a. tail_stops) (λ p. tail_stops p.1) (read.if_clause text c n r) (λ a. tail) clause_rule clause_keeps (λ a t h. kept_of (takes_else (body_of a)) t h) tail_at (λ a p t ga gp h. h) clause_ends)
      (omega arith) (λ p. tokens_If written p.0 p.1.0 p.1.1) (λ p. levels_If p.0 p.1.0 p.1.1) (λ p t h. ap (λ b. stops_before b t) (sym (takes_If p.0 p.1.0 p.1.1)) ∙ h)

  otherwise_keeps : Keeps text (λ y. nearest (else_takes_else y)) (made make_otherwise 0 (both (token text k.Else) branch))
  otherwise_keeps =
      keeps_made text (λ y. nearest (else_takes_else y)) make_otherwise 0 (both (token text k.Else) branch)
      (keeps_same text (λ p. nearest (takes_else p.1)) (λ p. nearest (else_takes_else (make_otherwise p))) (both (token text k.Else) branch) (λ p t h. ap (λ b. nearest b t) (takes_Otherwise p.0 p.1) ∙ h)
      (keeps_both text (λ x. nearest (takes_else x)) (token text k.Else) branch (keeps_choose text (λ x. nearest (takes_else x)) no_if_at (r.statement c) _ bodies.keeps (keeps_fail text (λ x. nearest (takes_else x))))))

  last_keeps : Keeps text (λ y. nearest (else_takes_else y)) (read.last_else text c n r)
  unfolding read.last_else
  last_keeps i y j h = by_test (e i) refl h
    where
      by_test : (b : Bool) → e i ≡ b → choose b (made make_otherwise 0 (both (token text k.Else) branch)) (empty ot.NoElse) i ≡ Some (y, j) → nearest (else_takes_else y.tree) (behind text j) ≡ true
      by_test true seen g = otherwise_keeps i y j g
      by_test false seen g =
          let here : i ≡ j = ap (λ p. p.1) (some_is _ _ g) in
          not_of _ (not_second (else_takes_else y.tree) (e j) (ap e (sym here) ∙ seen))

  pub if_keeps : Keeps text (λ x. nearest (takes_else x)) (read.if_statement text c n r)
  unfolding read.if_statement
  if_keeps =
      keeps_above text (λ x. nearest (takes_else x)) n make_if (both (read.if_clause text c n r) tail)
      (keeps_same text (λ p. nearest (else_takes_else p.1.1)) (λ p. nearest (takes_else (make_if p))) (both (read.if_clause text c n r) tail) (λ p t h. ap (λ b. nearest b t) (takes_If p.0 p.1.0 p.1.1) ∙ h)
      (keeps_both text (λ q. nearest (else_takes_else q.1)) (read.if_clause text c n r) tail
      (keeps_both text (λ y. nearest (else_takes_else y)) (read.else_ifs text c n r) (read.last_else text c n r) last_keeps)))

  -- ---- the family

  pub if_of : (x : Statement) → Made IfParts make_if x → IsStatement text c x
  if_of x h =
      let p = h.0 in
      subst (IsStatement text c) (sym h.1) (if_statement p.0 p.1.0 p.1.1 (firm_clause (not (is_empty p.1.0) || has_else p.1.1) p.0 h.2.0 h.2.1.2) (are_else_ifs (has_else p.1.1) p.1.0 h.2.1.0) (last_of p.1.1 h.2.1.1))
    where
      last_of : (y : Else) → IsLast y → IsElse text c y
      last_of y (inl h) = subst (IsElse text c) (sym h.1) (otherwise h.2.0 h.2.1.0 h.2.1.1)
      last_of y (inr h) = subst (IsElse text c) (sym h) no_else

  pub if_parts : (clause : IfClause) (rest : List ElseIf) (last : Else) → IsIfClause text (not (is_empty rest) || has_else last) c clause → AreElseIfs text (has_else last) c rest → IsElse text c last → IfParts.Good (clause, (rest, last))
  if_parts clause rest last h1 h2 h3 =
      let first = clause_firm (not (is_empty rest) || has_else last) clause h1 in
      (first.0, (all_firm (has_else last) rest h2, last_of last h3, first.1))
    where
      last_of : (y : Else) → IsElse text c y → IsLast y
      last_of y (otherwise {word = w} {body = b} h1 h2 h3) = inl ((w, b), refl, (h1, (h2, h3)))
      last_of y no_else = inr refl
