-- What is answered for an index.
use Rattle.std.specs.Prelude.{◌≡◌, ℤ, List}
use Rattle.jd_value.specs.Array.{Shaped, IsInside, cell_at}
use Rattle.jd_array.specs.declared.fault.ArrayFault.{ArrayFault}
use Rattle.jd_array.specs.declared.fault.ArrayFault.TheVariants.{Bounds}

-- the cell of an index inside
pub record IsCellAt (array : Shaped) (index : List ℤ) (cell : ℤ) : Type 0 where
  pub inside : IsInside array.dims index
  pub is : cell ≡ cell_at array index

-- the fault of an index outside
pub record IsOutside (array : Shaped) (index : List ℤ) (fault : ArrayFault) : Type 0 where
  pub outside : ¬ IsInside array.dims index
  pub is : fault ≡ Bounds
