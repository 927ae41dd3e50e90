pub mod Items
pub mod ItemStarts
pub mod RefusedItems
pub mod Laws
