-- Lines of characters that grow at their end, and their answers.
mod Pieces
