mod JsonLines
mod AnswerLines
mod AnswerTexts
mod ReadRequests
mod RequestRows
