-- How loops over lists begin, and what a reader is of another.
use Rattle.std.proofs.Common.{◌≡◌, ℕ, true, ◌+◌, length, Some, None, Err, refl, ap, subst, ◌∙◌, arith}
use Rattle.esb_tree.specs.declared.statements.ForStart.TheVariants as fs
use Rattle.esb_tree.specs.declared.statements.Declaration.{Declaration}
use Rattle.esb_grammar.specs.declared.context.Context.{Context}
use Rattle.esb_grammar.specs.Contexts.{without_in}
use Rattle.esb_reader.specs.Places.{Text}
use Rattle.esb_reader.specs.declared.fault.Fault.{Fault}
use Rattle.esb_reader.specs.declared.fault.Fault.TheVariants as fault
use Rattle.esb_reader.specs.declared.node.Node.{Node}
use Rattle.esb_reader.specs.Reader.{Gives, node, none, repeated}
use Rattle.esb_reader.specs.Parts.{behind, made}
use Rattle.esb_statement_laws.specs.Marks.{begins_item, is_clause}
use Rattle.esb_statement_laws.specs.Handed.{Handed}
use Rattle.esb_statement_laws.specs.Compounds.{clause}
use Rattle.esb_statement_laws.specs.Items.{items, statement}
use Rattle.esb_statement_laws.specs.Loops.{declared_start}
use Rattle.esb_statements.specs.Lists.{clause_list, loose_bindings, loose_declaration}

pub clauses_begin : (text : Text) (c : Context) (n : ℕ) (r : Handed) (i : ℕ) → clause_list text c n r i ≡ repeated (λ j. is_clause (behind text j).kind) (clause text c n r) (length text) none i
unfolding clause_list
clauses_begin text c n r i = refl

pub items_begin : (text : Text) (c : Context) (n : ℕ) (r : Handed) (i : ℕ) → items text c n r i ≡ repeated (λ j. begins_item (behind text j).kind) (statement text c n r true) (length text) none i
unfolding items
items_begin text c n r i = refl

module _ (text : Text) (c : Context) (n : ℕ) (r : Handed) (i : ℕ) where
  start_declares : declared_start text c n r i ≡ made fs.StartDeclaration 0 (loose_declaration text (without_in c) n r) i
  unfolding loose_declaration loose_bindings
  start_declares = refl

  fails_too : (fault : Fault) → Gives (Err fault) (loose_declaration text (without_in c) n r i) → Gives (Err fault) (declared_start text c n r i)
  fails_too fault.Memory h = tt
  fails_too (fault.NoTree at) h = start_declares ∙ (rw h refl)

  pub start_fails : (fault : Fault) (bare : Context) → bare ≡ without_in c → Gives (Err fault) (loose_declaration text bare n r i) → Gives (Err fault) (declared_start text c n r i)
  start_fails fault bare same h = fails_too fault (subst (λ (b : Context). Gives (Err fault) (loose_declaration text b n r i)) same h)

  pub start_gives : (x : Node Declaration) (j : ℕ) → loose_declaration text (without_in c) n r i ≡ Some (x, j) → declared_start text c n r i ≡ Some (node (fs.StartDeclaration x.tree) x.levels, j)
  start_gives x j h =
      let same : x.levels + 0 ≡ x.levels = omega arith in
      let made_of : made fs.StartDeclaration 0 (loose_declaration text (without_in c) n r) i ≡ Some (node (fs.StartDeclaration x.tree) (x.levels + 0), j) = rw h refl in
      start_declares ∙ made_of ∙ ap (λ (l : ℕ). Some (node (fs.StartDeclaration x.tree) l, j)) same
