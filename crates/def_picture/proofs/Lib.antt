mod RowMessages
mod Contents
mod PictureRows
mod Columns
