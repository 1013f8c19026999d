use Rattle.esb_print_tree.proofs.Whole.{trees-printable, printed_trees-read}
use Rattle.esb_print_tree.proofs.laws.trees_are_printable.Goals as goal

pub returns : goal.returns
returns c =
    record {
      printable = trees-printable;
      read = printed_trees-read;
    }
