mod Words
mod Answers
mod NoteTexts
