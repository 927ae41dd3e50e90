pub mod OneDrawing
