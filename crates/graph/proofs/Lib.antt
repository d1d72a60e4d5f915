mod AlikeTrees
mod Bare
mod FitKept
mod WithoutFault
mod Sheets
mod Checking
mod Resolving
mod Texts
pub mod WorkedExamples
mod Faultless
mod GraphsOfTrees
mod Lists
mod Marks
mod PrescribedSteps
pub mod PrintedApart
pub mod PrintedBlocks
pub mod PrintedMarks
pub mod PrintedDeclarations
pub mod PrintedExpressions
pub mod PrintedGraph
pub mod PrintedTokens
pub mod PrintedRelations
pub mod PrintedSteps
pub mod PrintedValues
mod ReadBlocks
mod ReadGraphs
mod Relating
pub mod SmallTrees
mod Written
mod Seen
mod ParsedTexts
mod OwnStatements
mod SameGraphs
