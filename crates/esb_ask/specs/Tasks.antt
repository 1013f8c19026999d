-- Tasks and the products that fit them.
use Rattle.std.specs.Prelude.{nat_eq, Bool, true, false, ◌&&◌}
use Rattle.std.specs.Str.{bytes_eq}
use Rattle.esb_base.specs.declared.file_name.FileName.{FileName}
use Rattle.esb_ask.specs.declared.task.Task.{Task}
use Rattle.esb_ask.specs.declared.task.Task.TheVariants as task
use Rattle.esb_ask.specs.declared.product.Product.{Product}
use Rattle.esb_ask.specs.declared.product.Product.TheVariants as product

-- whether two names are the same: one path in one namespace
abbrev pub same_name : FileName → FileName → Bool
same_name name other = bytes_eq name.namespace other.namespace && bytes_eq name.path other.path

-- whether two tasks are the same
abbrev pub same_task : Task → Task → Bool
same_task (task.Entry number) (task.Entry other) = nat_eq number other
same_task (task.Entry number) (task.Load other) = false
same_task (task.Load name) (task.Entry other) = false
same_task (task.Load name) (task.Load other) = same_name name other

-- whether a product is of the task's kind
abbrev pub product_fits : Task → Product → Bool
product_fits (task.Entry number) (product.Entry resolved) = true
product_fits (task.Entry number) (product.Load loaded) = false
product_fits (task.Load name) (product.Entry resolved) = false
product_fits (task.Load name) (product.Load loaded) = true
