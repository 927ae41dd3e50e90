-- What the code's items of forms stand for.
use Rattle.def_refusal.specs.Items as items
use Rattle.tn_script.specs.declared.items.FormItem.{FormItem}
use Rattle.tn_script.specs.declared.items.FormItem.TheVariants.{Step, Command, NumberedCommand}

abbrev pub form_item_of : FormItem → items.FormItem
form_item_of (Step k) = items.step k
form_item_of (Command k) = items.command k
form_item_of (NumberedCommand k n) = items.numbered_command k n
