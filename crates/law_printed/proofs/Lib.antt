pub mod AnswersByNumber
pub mod ClientTurns
pub mod ClientsAnswer
pub mod ListsOfClients
pub mod OneText
pub mod PhasesEnd
