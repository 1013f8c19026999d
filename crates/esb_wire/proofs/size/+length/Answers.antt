use Rattle.esb_wire.proofs.Sizes.{array_length, map_length}
use Rattle.esb_wire.proofs.size.+length.Goals as goal

pub value_length-returns-in-Array : goal.value_length-returns-in-Array
value_length-returns-in-Array t c =
    array_length c.args.value.now c.in-Array.values c.as_slice.result.now c.values_length.result c.sum-in-Array.result c.in-Array.is c.as_slice.ensures c.values_length.ensures c.sum-in-Array.ensures

pub value_length-returns-in-Map : goal.value_length-returns-in-Map
value_length-returns-in-Map t c =
    map_length c.args.value.now c.in-Map.pairs c.as_slice-in-Map.result.now c.pairs_length.result c.sum-in-Map.result c.in-Map.is c.as_slice-in-Map.ensures c.pairs_length.ensures c.sum-in-Map.ensures
