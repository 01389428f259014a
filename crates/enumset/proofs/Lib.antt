mod AskedSteps
mod NameLists
mod NamePlaces
mod NameLaws
mod NamesTaken
mod NamesRead
mod NamesSorted
mod NamesFound
pub mod JsonWords
pub mod JsonLaws
pub mod WrittenValues
mod JsonTokens
mod JsonDigits
mod JsonItems
mod JsonSteps
mod JsonLists
mod JsonScans
mod PlainLists
mod JsonNumbers
mod NumberScans
mod PlainTexts
mod PlainMembers
mod PlainWords
mod DigitsWritten
mod WordsWritten
mod MapHandles
mod MapTokens
mod MapsWritten
mod MapOrder
mod MapsRead
